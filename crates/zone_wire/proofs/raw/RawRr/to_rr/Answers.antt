use Rattle.zone_wire.proofs.Common.{Ok, if_fault_passed, refl}
use Rattle.zone_wire.proofs.Records.Answering.{only_answer, only_failing, stated}
use Rattle.zone_wire.proofs.raw.RawRr.to_rr.Goals as goal

pub returns-in_err-rdata-clause-only : goal.returns-in_err-rdata-clause-only
returns-in_err-rdata-clause-only c =
    only_failing _ c.args.self.now c.self.view_is c.self.inside.fields.offset c.are_octets.ensures.at c.self.invariant c.from_residual.result c.from_residual.ensures.0
    (if_fault_passed c.from_residual.result c.in_err-rdata.field-0.0 _ _ c.from_residual.ensures.1 (λ fault bad. bad) (rw c.lend.ensures at c.in_err-rdata.ensures.fault))

pub returns-clause-only : goal.returns-clause-only
returns-clause-only c =
    let states = stated _ c.args.self.now c.self.view_is _ _ _ c.in_ok-rdata.rdata c.of_parts.result (rw c.copy.ensures at c.of_parts.ensures.value) c.of_parts.ensures.record refl refl (rw c.lend.ensures at c.in_ok-rdata.ensures.class) (rw c.lend.ensures at c.in_ok-rdata.ensures.kind) c.counted_ttl-ttl.ensures.value (rw c.lend.ensures at c.in_ok-rdata.ensures.found) (rw c.lend.ensures at c.in_ok-rdata.ensures.readable) in
    only_answer _ c.args.self.now c.self.view_is c.self.inside.fields.offset c.are_octets.ensures.at c.self.invariant (Ok c.of_parts.result) states tt
