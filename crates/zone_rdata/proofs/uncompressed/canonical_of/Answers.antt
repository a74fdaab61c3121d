use Rattle.zone_rdata.proofs.Common.{refl, arith, nat_tests, if_fault_passed}
use Rattle.zone_rdata.proofs.Octets.Taken.{taken_bad, taken_over}
use Rattle.zone_rdata.proofs.uncompressed.canonical_of.Goals as goal

pub returns-in_err-rest-clause-fault : goal.returns-in_err-rest-clause-fault
returns-in_err-rest-clause-fault c =
    if_fault_passed c.from_residual-in_err-rest.result c.in_err-rest.field-0.0 _ _ c.from_residual-in_err-rest.ensures.1
    (λ fault bad. (bad.0, rw c.in-Some.is (taken_bad _ _ c.args.octets.now c.loop-field.field-index _ _ c.loop-field.rest.now c.loop-field.canonical.items c.fields-field-items.ensures (rw c.in-Some.is at c.requires) c.loop-field-test.true refl c.loop-field.invariant bad.1)))
    c.in_err-rest.ensures.fault

pub returns-then-not-is_empty-clause-fault : goal.returns-then-not-is_empty-clause-fault
returns-then-not-is_empty-clause-fault c =
    rw c.of.ensures (refl, rw c.in-Some.is (taken_over _ _ c.args.octets.now c.loop-field.field-index c.loop-field.rest.now c.loop-field.canonical.items c.fields-field-items.ensures (rw c.in-Some.is at c.requires) c.loop-field-test.false c.loop-field.invariant (grind (arith, nat_tests, c.is_empty.ensures, c.if-not-is_empty.true))))
