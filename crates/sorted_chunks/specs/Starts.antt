-- What a test answers at the first element of a chunk.
use Rattle.std.specs.Prelude.{Bool, true, List, [], ◌∷◌}

abbrev pub starts : {X : Type 0} → (X → Bool) → List X → Bool
starts p [] = true
starts p (x ∷ chunk) = p x
