-- The octets of a host's identity, whose lengths stand where its items have them and are put first,
-- and back.
use Rattle.std.specs.Prelude.{◌≡◌, ℕ, ◌++◌, ◌∷◌, List, length}

-- the algorithm, the tag after its length, and the key after its length of two octets
pub record AreLengthsWithin (octets : List ℕ) : Type 0 where
  pub algorithm : ℕ
  pub tag : List ℕ
  pub high : ℕ
  pub low : ℕ
  pub rest : List ℕ
  pub are : octets ≡ algorithm ∷ length tag ∷ tag ++ high ∷ low ∷ rest

-- both lengths around the algorithm, and then the tag and the rest
abbrev pub PutsLengthsFirst : List ℕ → List ℕ → Type 0
PutsLengthsFirst old new =
    (algorithm : ℕ) (tag : List ℕ) (high low : ℕ) (rest : List ℕ)
    → old ≡ algorithm ∷ length tag ∷ tag ++ high ∷ low ∷ rest
    → new ≡ length tag ∷ algorithm ∷ high ∷ low ∷ tag ++ rest

-- the tag, the key and what follows, after both lengths and the algorithm between them
abbrev pub HasLengthsFirst : List ℕ → ℕ → List ℕ → ℕ → ℕ → List ℕ → Type 0
HasLengthsFirst octets algorithm tag high low rest =
    octets ≡ length tag ∷ algorithm ∷ high ∷ low ∷ tag ++ rest

-- the same octets are appended, each length before its own
pub record PutsLengthsWithin (octets old new : List ℕ) : Type 0 where
  pub algorithm : ℕ
  pub tag : List ℕ
  pub high : ℕ
  pub low : ℕ
  pub rest : List ℕ
  pub are : HasLengthsFirst octets algorithm tag high low rest
  pub written : new ≡ old ++ (algorithm ∷ length tag ∷ tag ++ high ∷ low ∷ rest)

-- the octets end before such a tag does
abbrev pub HasNoLengthsFirst : List ℕ → Type 0
HasNoLengthsFirst octets =
    (algorithm : ℕ) (tag : List ℕ) (high low : ℕ) (rest : List ℕ)
    → HasLengthsFirst octets algorithm tag high low rest → ⊥
