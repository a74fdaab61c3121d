-- The generic form of record data (RFC 3597 5).
use Rattle.std.specs.Prelude.{◌≡◌, ◌≢◌, ℕ, ◌<◌, ◌≤◌, List, [], ◌∷◌, ◌++◌, length, decimal, Ok}
use Rattle.hex.specs.Hex.{decode_of, encode_lower}
use Rattle.zone_rdata.specs.declared.fault.Fault.{Fault}
use Rattle.zone_rdata.specs.declared.fault.Fault.TheVariants.{BadGeneric, RdataTooLong}
use Rattle.zone_rdata.specs.Number.{IsDecimal}
use Rattle.zone_rdata.specs.Item.{RawItem, bare, quoted, generic_mark, IsGeneric}
use Rattle.zone_rdata.specs.Limits.{longest_data}

-- a bare item of decimal digits that stand for the number
abbrev pub StatesLength : RawItem → ℕ → Type 0
StatesLength (bare text) n = IsDecimal text n
StatesLength (quoted text) n = ⊥

-- the mark, the number of octets in decimal, and the items after it
pub record IsGenericForm (items : List RawItem) (n : ℕ) (digits : List RawItem) : Type 0 where
  pub item : RawItem
  pub parts : items ≡ generic_mark ∷ item ∷ digits
  pub states : StatesLength item n

-- bare items, each of two hexadecimal digits in any case for each octet, that join to the octets
abbrev pub JoinTo : List RawItem → List ℕ → Type 0
JoinTo [] octets = octets ≡ []
JoinTo (bare text ∷ items) octets =
    (front rest : List ℕ) × (decode_of text ≡ Ok front) × (octets ≡ front ++ rest)
    × JoinTo items rest
JoinTo (quoted text ∷ items) octets = ⊥

-- the items state the octets in the generic form
pub record StatesGeneric (items : List RawItem) (octets : List ℕ) : Type 0 where
  pub digits : List RawItem
  pub form : IsGenericForm items (length octets) digits
  pub short : length octets ≤ longest_data
  pub joined : JoinTo digits octets

-- The first fault of items that begin with the mark: no length in decimal, a length over 65,535, or
-- digits that aren't those of so many octets
pub data GenericFault (items : List RawItem) : Fault → Type 0 where
  no_length : IsGeneric items → ((n : ℕ) (digits : List RawItem) → IsGenericForm items n digits → ⊥)
      → GenericFault items BadGeneric
  long_length : (n : ℕ) (digits : List RawItem) → IsGenericForm items n digits → longest_data < n
      → GenericFault items RdataTooLong
  bad_digits : (n : ℕ) (digits : List RawItem) → IsGenericForm items n digits → n ≤ longest_data
      → ((octets : List ℕ) → JoinTo digits octets → length octets ≢ n)
      → GenericFault items BadGeneric

-- the digits after the length, in one item where there are any
abbrev pub digit_items : List ℕ → List RawItem
digit_items [] = []
digit_items (c ∷ octets) = bare (encode_lower (c ∷ octets)) ∷ []

-- the items of the text that is printed for opaque octets
abbrev pub generic_items : List ℕ → List RawItem
generic_items octets = generic_mark ∷ bare (decimal (length octets)) ∷ digit_items octets
