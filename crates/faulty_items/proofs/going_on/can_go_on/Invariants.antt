use Rattle.faulty_items.proofs.Common.{NamedField, [], field_of, given, map, ◌∷◌, ◌≡◌}
use Rattle.faulty_items.proofs.CanGoOn.{NoneSoFar}
use Rattle.faulty_items.proofs.going_on.can_go_on.Given as goal

abbrev pub invariant-loop-more : goal.invariant-loop-more
invariant-loop-more l = (f : NamedField) → map field_of l.fn.field ≡ f ∷ [] → NoneSoFar l.fn.origin f (map given l.fn.items) l.more-index
