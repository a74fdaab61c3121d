-- How far an item or a comment goes, where octets may end before it does (RFC 1035 5.1).
use Rattle.std.specs.Prelude.{◌≡◌, ◌≢◌, ⊤, ℕ, ◌+◌, ◌-◌, ◌<◌, ◌≤◌, List, [], ◌∷◌, ◌++◌, length, take, Bool, true, false, ◌⊎◌, Option, Some, None}
use Rattle.std.specs.List.{AllByRecursion}
use Rattle.zone_name.specs.Spelling.{Written, written_text, IsUnit}
use Rattle.zone_rdata.specs.Spelling.{RawItem}
use Rattle.zone_rdata.specs.Strings.{is_quote}
use Rattle.zone_text.specs.Entries.{item_of}
use Rattle.zone_text.specs.Lasting.{IsCutOff, IsLostEscape}
use Rattle.zone_text.specs.Tokens.{Token, bare, comment, quoted, ends_item, token_text, IsToken}
use Rattle.zone_text.specs.declared.token.Span.{Span}
use Rattle.zone_text.specs.declared.token.Span.TheVariants.{Whole, Open, Lost}

-- ---- tokens

-- an item or a comment
abbrev pub IsItemOrComment : Token → Type 0
IsItemOrComment (bare units) = ⊤
IsItemOrComment (quoted units) = ⊤
IsItemOrComment (comment octets) = ⊤
IsItemOrComment p = ⊥

-- the first octet after the token ends it, whatever comes after that
abbrev pub Settles : Token → List ℕ → Type 0
Settles (bare units) [] = ⊥
Settles (bare units) (c ∷ rest) = ends_item c ≡ true
Settles (comment octets) [] = ⊥
Settles (comment octets) (c ∷ rest) = c ≡ 10
Settles p rest = ⊤

-- an item or a comment of so many octets stands in front, and what follows ends it
pub record EndsToken (octets : List ℕ) (n : ℕ) : Type 0 where
  pub token : Token
  pub left : List ℕ
  pub parts : octets ≡ token_text token ++ left
  pub is : IsToken token
  pub kind : IsItemOrComment token
  pub settled : Settles token left
  pub len : n ≡ length (token_text token)

-- ---- units

-- the octets begin with so many that are whole units
pub record AreUnits (ends : ℕ → Bool) (octets : List ℕ) (n : ℕ) : Type 0 where
  pub units : List Written
  pub rest : List ℕ
  pub each : AllByRecursion (IsUnit ends) units
  pub whole : octets ≡ written_text units ++ rest
  pub len : n ≡ length (written_text units)

-- an octet that ends the item comes next
abbrev pub EndsHere : (ℕ → Bool) → List ℕ → Type 0
EndsHere ends [] = ⊥
EndsHere ends (c ∷ rest) = ends c ≡ true

-- the octets end, or do so within an escape
abbrev pub RunsOut : List ℕ → Type 0
RunsOut rest = (rest ≡ []) ⊎ IsCutOff rest

-- so many of the octets after a backslash show that it begins no escape, or they end within one
abbrev pub IsLostBy : List ℕ → Option ℕ → Type 0
IsLostBy after None = IsCutOff (92 ∷ after)
IsLostBy after (Some n) = IsLostEscape (92 ∷ take n after) × (n ≤ length after)

abbrev pub IsSpan : (ℕ → Bool) → List ℕ → Span → Type 0
IsSpan ends octets (Whole n) = (are : AreUnits ends octets n) × EndsHere ends are.rest
IsSpan ends octets (Open n) = (are : AreUnits ends octets n) × RunsOut are.rest
IsSpan ends octets (Lost n) =
    (k : ℕ) × (are : AreUnits ends (take n octets) k) × IsLostEscape are.rest × (n ≤ length octets)

-- ---- the item or comment at the front

-- none of the first octets of the comment is a line feed
pub record IsSeenComment (note : List ℕ) (n : ℕ) : Type 0 where
  pub each : AllByRecursion (λ c. c ≢ 10) (take n note)
  pub within : n ≤ length note

-- so many octets of the item or comment at the front were seen
pub record IsSeen (octets : List ℕ) (n : ℕ) : Type 0 where
  pub of_comment : (note : List ℕ) → octets ≡ 59 ∷ note → IsSeenComment note (n - 1)
  pub of_quoted : (inside : List ℕ) → octets ≡ 34 ∷ inside → AreUnits is_quote inside (n - 1)
  pub of_bare : ((rest : List ℕ) → octets ≢ 59 ∷ rest) → ((rest : List ℕ) → octets ≢ 34 ∷ rest)
      → AreUnits ends_item octets n

-- nothing stands there, or an item or a comment that isn't ended, and so many octets of it are
-- whole units
pub data IsOpenToken (octets : List ℕ) (n : ℕ) : Type 0 where
  between : octets ≡ [] → n ≡ 0 → IsOpenToken octets n
  in_comment : (note : List ℕ) → octets ≡ 59 ∷ note → AllByRecursion (λ c. c ≢ 10) note
      → n ≡ length octets → IsOpenToken octets n
  in_quotes : (inside : List ℕ) (k : ℕ) (are : AreUnits is_quote inside k)
      → octets ≡ 34 ∷ inside → RunsOut are.rest → n ≡ k + 1 → IsOpenToken octets n
  in_bare : (are : AreUnits ends_item octets n) → RunsOut are.rest → 0 < length octets
      → IsOpenToken octets n

-- a backslash that begins no escape stands in the item, whatever follows
pub data IsLostToken (octets : List ℕ) : Type 0 where
  in_quotes_lost : (inside : List ℕ) (n : ℕ) (are : AreUnits is_quote inside n)
      → octets ≡ 34 ∷ inside → IsLostEscape are.rest → IsLostToken octets
  in_bare_lost : (n : ℕ) (are : AreUnits ends_item octets n) → IsLostEscape are.rest
      → IsLostToken octets

-- an item or a comment begins there
abbrev pub BeginsToken : List ℕ → Type 0
BeginsToken [] = ⊥
BeginsToken (c ∷ rest) = (ends_item c ≡ false) ⊎ ((c ≡ 34) ⊎ (c ≡ 59))

abbrev pub IsTokenSpan : List ℕ → Span → Type 0
IsTokenSpan octets (Whole n) = BeginsToken octets → EndsToken octets n
IsTokenSpan octets (Open n) = IsOpenToken octets n
IsTokenSpan octets (Lost n) = IsLostToken (take n octets) × (n ≤ length octets)

-- if the octets are an item or a comment, these are its items
abbrev pub ItemIs : List ℕ → List RawItem → Type 0
ItemIs octets items =
    (p : Token) → octets ≡ token_text p → IsToken p → IsItemOrComment p → items ≡ item_of p
