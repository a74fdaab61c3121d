use Rattle.faulty_items.proofs.Digits.{UpTo}
use Rattle.faulty_items.proofs.generic.stop_in_digits.Given as goal

abbrev pub invariant-loop-item : goal.invariant-loop-item
invariant-loop-item l = UpTo l.digits l.most l.item-index l.octets.items
