-- Lists, element by element.
use Rattle.std.proofs.Common.{[], ◌≡◌, ℕ, suc, ◌+◌, ◌<◌, List, ◌∷◌, length, get_or, drop, sym, ap, ◌∙◌, arith}
use Rattle.std.proofs.lemmas.Grind.{common_steps}
use Rattle.std.proofs.lemmas.List.{drop_more}
use Rattle.std.specs.List.{AllByRecursion}
use Rattle.zone_name.specs.Common.{AreOctets}

-- the element at an index, and those after it
pub from_place : {A : Type 0} (xs : List A) (i : ℕ) (x d : A) → i < length xs → x ≡ get_or xs i d → drop i xs ≡ x ∷ drop (i + 1) xs
from_place xs i x d lt found = drop_more xs i d lt ∙ ap (λ y. y ∷ drop (i + 1) xs) (sym found)

pub bytes_each : (octets : List ℕ) → ((i : ℕ) → get_or octets i 0 < 256) → AreOctets octets
bytes_each [] h = tt
bytes_each (c ∷ octets) h = (h 0, bytes_each octets (λ i. h (suc i)))

-- what holds of each, a weaker one holds of each
pub each_weaker : {X : Type 0} {P : X → Type 0} (Q : X → Type 0) → ((x : X) → P x → Q x) → (xs : List X) → AllByRecursion P xs → AllByRecursion Q xs
each_weaker Q weaker [] each = tt
each_weaker Q weaker (x ∷ xs) each = (weaker x each.0, each_weaker Q weaker xs each.1)

-- numbers below a bound are so at each place, and past the last one too
pub each_below : (bound : ℕ) (xs : List ℕ) → 0 < bound → AllByRecursion (λ n. n < bound) xs → (i : ℕ) → get_or xs i 0 < bound
each_below bound xs some each i = grind (arith, common_steps)
