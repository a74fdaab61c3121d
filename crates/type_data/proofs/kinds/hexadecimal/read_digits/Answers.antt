use Rattle.type_data.proofs.Common.{Ok, ap, arith, nat_tests, refl}
use Rattle.type_data.proofs.OfKinds.Hexadecimal.Digits.{digits_appended, no_digits}
use Rattle.type_data.proofs.kinds.hexadecimal.read_digits.Goals as goal
use Rattle.type_data.proofs.kinds.hexadecimal.read_digits.Goals.{then-is_empty-via-then-is_empty, then-is_empty-via-else-is_empty+in_ok-push_octets_of_hex+then-not-branch}

pub returns-then-is_empty-clause-fault : goal.returns-then-is_empty-clause-fault
returns-then-is_empty-clause-fault c = (
  refl,
  λ octets is. elim c.then-is_empty.branch [
    | then-is_empty-via-then-is_empty w ↦ no_digits c.args.text.now octets (grind (arith, c.is_empty.ensures, w.if-is_empty.true)) is
    | then-is_empty-via-else-is_empty+in_ok-push_octets_of_hex+then-not-branch w ↦
        w.in_ok-push_octets_of_hex.ensures.no (ap Ok w.if-not-branch.true) octets is.digits
  ],
)

pub returns-clause-states : goal.returns-clause-states
returns-clause-states c =
    digits_appended c.args.text.now c.args.out.now.items c.push_octets_of_hex.new.out.items (grind (arith, nat_tests, c.is_empty.ensures, c.if-is_empty.false)) (c.in_ok-push_octets_of_hex.ensures.yes (ap Ok c.if-not-branch.false))
