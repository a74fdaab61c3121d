use Rattle.type_data.proofs.Common.{fault_answered, fault_passed, on_ok_weaker}
use Rattle.type_data.proofs.OfKinds.Hexadecimal.Digits.{counted_appended, long_counted, no_counted}
use Rattle.type_data.proofs.kinds.hexadecimal.read_counted_digits.Goals as goal

pub returns-in_err-read_digits-clause-fault : goal.returns-in_err-read_digits-clause-fault
returns-in_err-read_digits-clause-fault c =
    fault_passed c.from_residual.result c.in_err-read_digits.field-0.0 _ _ c.from_residual.ensures.1 (λ fault. no_counted c.args.text.now fault) c.in_err-read_digits.ensures.fault

pub returns-then-text-gt-MOST_COUNTED-clause-fault : goal.returns-then-text-gt-MOST_COUNTED-clause-fault
returns-then-text-gt-MOST_COUNTED-clause-fault c = long_counted c.args.text.now _ _ c.if-text-gt-MOST_COUNTED.true c.in_ok-read_digits.ensures.states

pub returns-clause-states : goal.returns-clause-states
returns-clause-states c =
    on_ok_weaker c.read_digits-2.result (counted_appended c.args.text.now c.args.out.now.items c.push.new.self.items c.read_digits-2.new.out.items c.if-text-gt-MOST_COUNTED.false c.in_ok-push.ensures.items) c.read_digits-2.ensures.states

pub returns-clause-fault : goal.returns-clause-fault
returns-clause-fault c = fault_answered c.read_digits-2.result _ _ (λ fault. no_counted c.args.text.now fault) c.read_digits-2.ensures.fault
