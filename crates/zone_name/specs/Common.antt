-- The words that the contracts of all crates repeat.
use Rattle.std.specs.Prelude.{◌≡◌, ℕ, ◌<◌, List, [], ◌∷◌, ◌⊎◌}
use Rattle.std.specs.List.{AllByRecursion, flat_map}

-- a text, or what data and messages hold
abbrev pub Octets : Type 0
Octets = List ℕ

-- the labels of a name, the leftmost first
abbrev pub Labels : Type 0
Labels = List Octets

-- each number is that of an octet
abbrev pub AreOctets : List ℕ → Type 0
AreOctets octets = AllByRecursion (λ c. c < 256) octets

-- each octet after one that is the same before all
abbrev pub each_after : ℕ → List ℕ → List ℕ
each_after first octets = flat_map (λ c. first ∷ c ∷ []) octets

-- nothing is so
abbrev pub NothingIs : {A : Type 0} → (A → Type 0) → Type 0
NothingIs {A} Is = (a : A) → Is a → ⊥

-- at most one thing is so
abbrev pub AtMostOneIs : {A : Type 0} → (A → Type 0) → Type 0
AtMostOneIs {A} Is = (a b : A) → Is a → Is b → a ≡ b

-- something is one or the other: a value, or a fault
abbrev pub EitherIs : {A E : Type 0} → (A → Type 0) → (E → Type 0) → Type 0
EitherIs {A} {E} IsValue IsFault = ((a : A) × IsValue a) ⊎ ((e : E) × IsFault e)

-- where there is one, there is none of the other
abbrev pub NeverBothAre : {A E : Type 0} → (A → Type 0) → (E → Type 0) → Type 0
NeverBothAre {A} {E} IsValue IsFault = (a : A) (e : E) → IsValue a → IsFault e → ⊥

-- one verdict: a value or a fault, never both, and no other of either
pub record IsVerdict {A E : Type 0} (IsValue : A → Type 0) (IsFault : E → Type 0) : Type 0 where
  pub one_of : EitherIs IsValue IsFault
  pub never_both : NeverBothAre IsValue IsFault
  pub one_value : AtMostOneIs IsValue
  pub one_fault : AtMostOneIs IsFault
