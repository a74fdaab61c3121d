-- The lemmas of the laws of the sinks: what was taken slice by slice was taken as one.
use Rattle.std.specs.Prelude.{◌≡◌, ◌+◌, ◌≤◌, ℕ, ◌-◌, List, ◌++◌, length}
use Rattle.std.proofs.Common.{ap, ◌∙◌, append_assoc, arith, length-append}
use Rattle.zone_name.specs.Sink.{TakesWhatFits}

-- octets after others, and more after these
pub appended_twice : (a b c x y : List ℕ) → b ≡ a ++ x → c ≡ b ++ y → c ≡ a ++ (x ++ y)
appended_twice a b c x y first second = second ∙ ap (λ t. t ++ y) first ∙ append_assoc a x y

-- octets counted down, and more of them
pub counted_twice : (a b c : ℕ) (x y : List ℕ) → b ≡ a - length x → c ≡ b - length y
    → c ≡ a - length (x ++ y)
counted_twice a b c x y first second = omega (arith, first, second, length-append x y)

-- octets that fit after others, and more after these
pub fitted_twice : (room : ℕ) (a b c x y : List ℕ) → TakesWhatFits room a x b
    → TakesWhatFits room b y c
    → TakesWhatFits room a (x ++ y) c
fitted_twice room a b c x y first second fits =
    let whole : length a + (length x + length y) ≤ room =
    omega (arith, fits, length-append a (x ++ y), length-append x y) in
    let both = length-append (a ++ x) y in
    let front : b ≡ a ++ x = first (omega (arith, whole, length-append a x)) in
    appended_twice a b c x y front
    (second (rw front (omega (arith, whole, both, length-append a x))))
