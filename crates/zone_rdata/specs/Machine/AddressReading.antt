-- How the code takes an address's text apart.
use Rattle.std.specs.Prelude.{◌≡◌, ◌≢◌, ℕ, suc, ◌+◌, ◌<◌, Bool, List, Option, Some, None, length, ◌∷◌, ◌++◌, slice_index}
use Rattle.std.specs.List.{AllByRecursion}
use Rattle.zone_name.specs.Common.{Octets}
use Rattle.zone_rdata.specs.Address.{IsGroup, IsLastPart}

-- the octet isn't in the text
abbrev pub Lacks : ℕ → List ℕ → Type 0
Lacks c text = AllByRecursion (λ d. d ≢ c) text

-- the text is cut at the first of an octet
pub record IsCutAtFirst (c : ℕ) (text front back : List ℕ) : Type 0 where
  pub parted : text ≡ front ++ c ∷ back
  pub lacks : Lacks c front

-- two colons stand at the place
abbrev pub HasGapAt : List ℕ → ℕ → Type 0
HasGapAt text k = (slice_index text k ≡ 58) × (slice_index text (suc k) ≡ 58)

-- a text is a group, and its octets
abbrev pub IsGroupOf : Octets → Octets → Type 0
IsGroupOf text octets = IsGroup (record { text = text; octets = octets })

-- a text is a group or, at an address's end, four decimal numbers, and its octets
abbrev pub IsLastPartOf : Bool → Octets → Octets → Type 0
IsLastPartOf ends text octets = IsLastPart ends (record { text = text; octets = octets })

-- octets of which so much is said are appended
abbrev pub AppendsSome : (Octets → Type 0) → Octets → Octets → Type 0
AppendsSome Is old new = (added : Octets) × (Is added × (new ≡ old ++ added))

-- no octets of which so much is said have room in an address of sixteen octets
abbrev pub NoneFits : (Octets → Type 0) → Octets → Type 0
NoneFits Is old = (added : Octets) → Is added → 16 < length old + length added

-- the value of a digit, and 255 where there is none
abbrev pub value_or_255 : Option ℕ → ℕ
value_or_255 (Some value) = value
value_or_255 None = 255
