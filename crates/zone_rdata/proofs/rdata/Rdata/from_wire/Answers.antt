use Rattle.zone_rdata.proofs.Common.{subst, arith, AreOctets, if_fault_passed}
use Rattle.zone_rdata.proofs.Octets.Layouts.{canonical_data, wire_fault}
use Rattle.zone_rdata.proofs.rdata.Rdata.from_wire.Goals as goal

pub invariant_of-result : goal.invariant_of-result
invariant_of-result c = record {
  class = c.layout_of.ensures.class;
  kind = c.layout_of.ensures.kind;
  octets = canonical_data c.args.class c.args.kind _ c.args.octets.now _ c.layout_of.ensures.fields c.in_ok-octets.ensures.found (omega arith) (subst AreOctets c.deref.ensures.value c.are_octets.ensures.each);
}

pub returns-in_err-octets-clause-fault : goal.returns-in_err-octets-clause-fault
returns-in_err-octets-clause-fault c =
    if_fault_passed c.from_residual.result c.in_err-octets.field-0.0 _ _ c.from_residual.ensures.1 (λ fault bad. wire_fault c.args.class c.args.kind _ _ fault c.layout_of.ensures.fields (omega arith) bad) c.in_err-octets.ensures.fault
