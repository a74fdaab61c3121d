-- What is so or not, of one thing or of none.
use Rattle.std.proofs.Common.{[], ◌≡◌, ℕ, ◌<◌, Bool, true, List, ◌∷◌, ◌⊎◌, inl, inr, arith, Option}
use Rattle.std.proofs.lemmas.Bool.{cases_lt}
use Rattle.std.specs.List.{AllByRecursion}
use Rattle.std.specs.Prelude.{IfNone, IfSome}
use Rattle.std.specs.Bool.{Decides}

abbrev pub Decided : Type 0 → Type 0
Decided P = P ⊎ (P → ⊥)

pub true_or_not : (b : Bool) → Decided (b ≡ true)
true_or_not b = grind arith

pub tested_or_not : {P : Type 0} (b : Bool) → Decides b P → Decided P
tested_or_not b decides = grind arith

pub denied_or_not : {P : Type 0} → Decided P → Decided (P → ⊥)
denied_or_not is = grind arith

pub both_or_not : {P Q : Type 0} → Decided P → Decided Q → Decided (P × Q)
both_or_not p q = grind arith

pub either_or_not : {P Q : Type 0} → Decided P → Decided Q → Decided (P ⊎ Q)
either_or_not p q = grind arith

pub each_or_not : {X : Type 0} (P : X → Type 0) → ((x : X) → Decided (P x)) → (xs : List X) → Decided (AllByRecursion P xs)
each_or_not P one [] = inl tt
each_or_not P one (x ∷ xs) = grind (arith, one x, each_or_not P one xs)

abbrev pub Choice : {X : Type 0} → (X → Type 0) → Type 0
Choice {X = X} P = ((x : X) × P x) ⊎ ((x : X) → P x → ⊥)

pub choice_as : {X Y : Type 0} {P : X → Type 0} {Q : Y → Type 0} (f : X → Y) → ((x : X) → P x → Q (f x)) → (((x : X) → P x → ⊥) → (y : Y) → Q y → ⊥) → Choice P → Choice Q
choice_as f more none h = grind arith

-- one thing of two that are so or not
pub choice_both : {X Y Z : Type 0} {P : X → Type 0} {Q : Y → Type 0} {R : Z → Type 0} (join : X → Y → Z) → ((x : X) (y : Y) → P x → Q y → R (join x y)) → ((z : Z) → R z → ((x : X) × P x) × ((y : Y) × Q y)) → Choice P → Choice Q → Choice R
choice_both join both parts (inl x) (inl y) = inl (join x.0 y.0, both x.0 y.0 x.1 y.1)
choice_both join both parts (inr none) y = inr (λ z h. none (parts z h).0.0 (parts z h).0.1)
choice_both join both parts x (inr none) = inr (λ z h. none (parts z h).1.0 (parts z h).1.1)

-- a number below a bound is stated or none
pub below_or_not : (Is : ℕ → Type 0) (bound : ℕ) → ((a b : ℕ) → Is a → Is b → a ≡ b) → Choice Is → Choice (λ n. Is n × (n < bound))
below_or_not Is bound once (inr none) = inr (λ n h. none n h.0)
below_or_not Is bound once (inl found) = grind (arith, cases_lt found.0 bound)

-- what holds after any answer
pub if_none_any : {T : Type 0} (o : Option T) (P : Type 0) → P → IfNone o P
if_none_any o P p = grind arith

pub if_none_weaker : {T : Type 0} (o : Option T) (P Q : Type 0) → (P → Q) → IfNone o P → IfNone o Q
if_none_weaker o P Q f p = grind arith

pub if_some_weaker : {T : Type 0} (o : Option T) (P Q : T → Type 0) → ((x : T) → P x → Q x) → IfSome o P → IfSome o Q
if_some_weaker o P Q f p = grind arith
