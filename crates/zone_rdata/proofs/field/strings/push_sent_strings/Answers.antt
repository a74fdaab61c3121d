use Rattle.zone_rdata.proofs.Common.{arith, if_fault_passed}
use Rattle.zone_rdata.proofs.Fields.Strings.{all_pushed, none_first, none_next}
use Rattle.zone_rdata.proofs.field.strings.push_sent_strings.Goals as goal

pub returns-in_err-rest-clause-fault : goal.returns-in_err-rest-clause-fault
returns-in_err-rest-clause-fault c = if_fault_passed c.from_residual.result c.in_err-rest.field-0.0 _ _ c.from_residual.ensures.1 (λ fault bad. (bad.0, none_first c.args.octets.now bad.1)) c.in_err-rest.ensures.fault

pub returns-in_err-rest-2-clause-fault : goal.returns-in_err-rest-2-clause-fault
returns-in_err-rest-2-clause-fault c =
    if_fault_passed c.from_residual-in_err-rest-2.result c.in_err-rest-2.field-0.0 _ _ c.from_residual-in_err-rest-2.ensures.1
    (λ fault bad. (bad.0, none_next c.args.octets.now c.loop-canonical.rest.now _ _ (grind (arith, c.is_empty.ensures, c.loop-canonical-test.true)) c.loop-canonical.invariant bad.1))
    c.in_err-rest-2.ensures.fault

pub returns-clause-found : goal.returns-clause-found
returns-clause-found c = all_pushed _ _ _ _ (grind (arith, c.is_empty.ensures, c.loop-canonical-test.false)) c.loop-canonical.invariant
