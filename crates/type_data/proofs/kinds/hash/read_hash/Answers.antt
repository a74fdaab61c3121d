use Rattle.type_data.proofs.OfKinds.Hash.Digits.{hash_fails, long_hash, no_digits_hash, octet_count}
use Rattle.type_data.specs.Kinds.Hash.{IsBase32Hex}
use Rattle.type_data.proofs.OfKinds.AfterLength.Lengths.{appended_after_length}
use Rattle.type_data.proofs.Common.{arith, fault_answered, fault_passed, nat_tests, on_ok_weaker, sym}
use Rattle.type_data.proofs.kinds.hash.read_hash.Goals as goal

pub returns-then-is_empty-clause-fault : goal.returns-then-is_empty-clause-fault
returns-then-is_empty-clause-fault c = no_digits_hash c.args.text.now (grind (arith, nat_tests, c.is_empty.ensures, c.if-is_empty.true))

pub returns-in_err-push_octets-clause-fault : goal.returns-in_err-push_octets-clause-fault
returns-in_err-push_octets-clause-fault c = fault_passed c.from_residual.result c.in_err-push_octets.field-0.0 _ _ c.from_residual.ensures.1 (λ fault. hash_fails c.args.text.now fault) c.in_err-push_octets.ensures.fault

pub returns-then-text-gt-MOST_DIGITS-clause-fault : goal.returns-then-text-gt-MOST_DIGITS-clause-fault
returns-then-text-gt-MOST_DIGITS-clause-fault c = long_hash c.args.text.now _ _ c.if-text-gt-MOST_DIGITS.true c.in_ok-push_octets.ensures.states

pub returns-clause-states : goal.returns-clause-states
returns-clause-states c =
    on_ok_weaker c.push_octets-2.result (λ more. appended_after_length IsBase32Hex c.args.text.now c.args.out.now.items c.push.new.self.items c.push_octets-2.new.out.items _ c.in_ok-push.ensures.items more (sym (octet_count c.args.text.now more.octets more.stated)) (omega (arith, octet_count c.args.text.now more.octets more.stated))) c.push_octets-2.ensures.states

pub returns-clause-fault : goal.returns-clause-fault
returns-clause-fault c = fault_answered c.push_octets-2.result _ _ (λ fault. hash_fails c.args.text.now fault) c.push_octets-2.ensures.fault
