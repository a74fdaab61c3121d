-- Character-strings (RFC 1035 3.3): the items that spell one (5.1), the first fault of an item that
-- spells none, and the text that is printed.
use Rattle.std.specs.Prelude.{◌≡◌, ◌≢◌, ℕ, ◌≤◌, List, [], ◌∷◌, ◌++◌, length, nat_le, ◌==◌, ◌&&◌, ◌||◌, Bool, if◌then◌else◌}
use Rattle.std.specs.List.{flat_map, AllByRecursion}
use Rattle.zone_name.specs.Common.{AreOctets}
use Rattle.zone_name.specs.Spelling.{Written, text_of, IsUnit, no_octet, written_text, written_octets, IsBadEscape}
use Rattle.zone_name.specs.Text.{decimal_escape}
use Rattle.zone_rdata.specs.declared.fault.Fault.{Fault}
use Rattle.zone_rdata.specs.declared.fault.Fault.TheVariants.{BadEscape, StringTooLong}
use Rattle.zone_rdata.specs.Item.{RawItem, bare, quoted}

-- a character-string has at most 255 octets (RFC 1035 3.3)
pub record IsString (octets : List ℕ) : Type 0 where
  pub short : length octets ≤ 255
  pub each : AreOctets octets

-- the text of an item, bare or between its quotes
abbrev pub item_text : RawItem → List ℕ
item_text (bare text) = text
item_text (quoted text) = text

-- the item spells the string
pub record SpellsString (item : RawItem) (octets : List ℕ) : Type 0 where
  pub units : List Written
  pub each : AllByRecursion (IsUnit no_octet) units
  pub text : item_text item ≡ written_text units
  pub value : octets ≡ written_octets units
  pub string : IsString octets

-- a text up to a place: the units of at most 255 octets
pub record ReachesUnit (text : List ℕ) (before : List Written) (rest : List ℕ) : Type 0 where
  pub units : AllByRecursion (IsUnit no_octet) before
  pub room : length before ≤ 255
  pub parts : text ≡ written_text before ++ rest

-- the leftmost fault of an item that spells no string: at a backslash that begins no escape, or at
-- the 256th octet
pub data StringFault (item : RawItem) : Fault → Type 0 where
  bad_escape : (before : List Written) (rest : List ℕ) → ReachesUnit (item_text item) before rest
      → IsBadEscape rest → StringFault item BadEscape
  long_string : (before : List Written) (w : Written) (rest : List ℕ)
      → ReachesUnit (item_text item) before (text_of w ++ rest) → length before ≡ 255
      → IsUnit no_octet w → StringFault item StringTooLong

-- the octets that print as themselves inside quotes, a space and `!` to `~`
abbrev pub is_shown : ℕ → Bool
is_shown c = nat_le 32 c && nat_le c 126

-- an octet between quotes: a quote or a backslash after a backslash, any other by itself or by its
-- value
abbrev pub unit_text : ℕ → List ℕ
unit_text c =
    if c == 34 || c == 92 then 92 ∷ c ∷ [] else (if is_shown c then c ∷ [] else decimal_escape c)

-- what is printed between the quotes
abbrev pub inside_text : List ℕ → List ℕ
inside_text octets = flat_map unit_text octets

abbrev pub string_text : List ℕ → List ℕ
string_text octets = 34 ∷ inside_text octets ++ 34 ∷ []

-- between quotes a quote ends the item
abbrev pub is_quote : ℕ → Bool
is_quote c = c == 34

-- a text that stands between the quotes of an item, in one line
pub record StandsInQuotes (text : List ℕ) : Type 0 where
  pub units : List Written
  pub each : AllByRecursion (IsUnit is_quote) units
  pub parts : text ≡ written_text units
  pub one_line : AllByRecursion (λ c. c ≢ 10) text
