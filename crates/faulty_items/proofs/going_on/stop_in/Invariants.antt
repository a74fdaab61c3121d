use Rattle.faulty_items.proofs.Common.{CanGoOn, NamedField, [], field_of, given, length, map, take, ◌-◌, ◌<◌, ◌∷◌, ◌≡◌, ◌≤◌, ◌⊎◌}
use Rattle.faulty_items.proofs.going_on.stop_in.Given as goal

abbrev pub invariant-loop-high : goal.invariant-loop-high
invariant-loop-high l =
    record {
      order : l.low < l.high;
      within : l.high ≤ length l.fn.own;
      before : (f : NamedField) → map field_of l.fn.field ≡ f ∷ [] → (l.low ≡ 0) ⊎ CanGoOn l.fn.origin f (take l.low (map given l.fn.own));
      after : (f : NamedField) → map field_of l.fn.field ≡ f ∷ [] → CanGoOn l.fn.origin f (take l.high (map given l.fn.own)) → ⊥;
    }

abbrev pub decreases-loop-high : goal.decreases-loop-high
decreases-loop-high l = l.high - l.low
