-- The tests are those of the definition.
use Rattle.std.proofs.Common.{arith}
use Rattle.zone_rdata.specs.Lent.{record_of}
use Rattle.zone_digest.proofs.Soa.{is_goes}
use Rattle.zone_digest.proofs.ordered.is_before.Goals as goal

pub returns-then-number : goal.returns-then-number
returns-then-number c = is_goes c.is_same.result (record_of c.args.rr.now) (record_of c.args.soa.now) (omega (arith, c.number.ensures.value, c.number-2.ensures.value, c.if-number.true)) c.is_same.ensures
