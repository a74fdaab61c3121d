use Rattle.type_data.proofs.Common.{bytes_eq-Decides, false≢true, fault_answered, on_ok_weaker, sym, ◌∙◌}
use Rattle.type_data.proofs.OfKinds.Salt.Once.{salt_appended, salt_fails}
use Rattle.type_data.proofs.kinds.salt.read_salt.Goals as goal

pub returns-clause-states : goal.returns-clause-states
returns-clause-states c = on_ok_weaker c.read_counted_digits.result (salt_appended c.args.text.now c.args.out.now.items c.read_counted_digits.new.out.items) c.read_counted_digits.ensures.states

pub returns-clause-fault : goal.returns-clause-fault
returns-clause-fault c = fault_answered c.read_counted_digits.result _ _ (λ fault. salt_fails c.args.text.now fault (λ mark. false≢true (c.if-eq.ensures ∙ (bytes_eq-Decides c.args.text.now c.as_slice.result.now).1 (mark ∙ sym c.as_slice.ensures)))) c.read_counted_digits.ensures.fault
