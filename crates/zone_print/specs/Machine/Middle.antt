-- The part of a line that records of many owners have in common.
use Rattle.std.specs.Prelude.{◌≡◌, ℕ, length, List, [], ◌∷◌, ◌++◌, decimal}
use Rattle.zone_rdata.specs.Words.{class_text, kind_text}

-- TTL and class, each after a space, and a space
abbrev pub before_kind : ℕ → ℕ → List ℕ
before_kind ttl class = 32 ∷ decimal ttl ++ 32 ∷ class_text class ++ 32 ∷ []

-- the type and a space
abbrev pub kind_column : ℕ → ℕ → List ℕ
kind_column class kind = kind_text class kind ++ 32 ∷ []

-- both, which stand after the owner and before the data
abbrev pub line_middle : ℕ → ℕ → ℕ → List ℕ
line_middle ttl class kind = before_kind ttl class ++ kind_column class kind

-- a text is the middle, and so many octets of it stand before the type
pub record HoldsMiddle (text : List ℕ) (kept ttl class kind : ℕ) : Type 0 where
  pub whole : text ≡ line_middle ttl class kind
  pub len : kept ≡ length (before_kind ttl class)
