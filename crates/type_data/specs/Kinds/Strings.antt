-- Character-strings, each after its length (RFC 1035 3.3).
use Rattle.std.specs.Prelude.{◌≡◌, ℕ, List, [], ◌∷◌, map}
use Rattle.std.specs.List.{flat_map}
use Rattle.zone_name.specs.Name.{with_length}
use Rattle.zone_rdata.specs.declared.fault.Fault.{Fault}
use Rattle.zone_rdata.specs.declared.fault.Fault.TheVariants as faults
use Rattle.zone_rdata.specs.Fields.Strings.{AreStrings, FirstStringFault, SpellsStrings}
use Rattle.zone_rdata.specs.Item.{RawItem, quoted}
use Rattle.zone_rdata.specs.Strings.{IsString, SpellsString, StringFault, inside_text, string_text}
use Rattle.zone_rdata.specs.Text.{written_item}
use Rattle.type_data.specs.declared.fault.WordsFault.{WordsFault}
use Rattle.type_data.specs.declared.fault.WordsFault.TheVariants.{BadEscape, NothingLeft, StringTooLong}
pub mod Machine

-- the fault of a string among those of words
abbrev pub of_string : Fault → WordsFault
of_string faults.BadEscape = BadEscape
of_string fault = StringTooLong

-- an item is one string
pub record StatesString (item : RawItem) (octets : List ℕ) : Type 0 where
  pub string : List ℕ
  pub spelt : SpellsString item string
  pub value : octets ≡ with_length string

pub record FailsString (item : RawItem) (fault : WordsFault) : Type 0 where
  pub own : Fault
  pub first : StringFault item own
  pub is : fault ≡ of_string own

-- one item or more are strings, one after another
pub record StatesStrings (items : List RawItem) (octets : List ℕ) : Type 0 where
  pub strings : List (List ℕ)
  pub spelt : SpellsStrings items strings
  pub value : octets ≡ flat_map with_length strings

-- the leftmost item that is no string
pub record AnItemFails (items : List RawItem) (fault : WordsFault) : Type 0 where
  pub own : Fault
  pub first : FirstStringFault items own
  pub is : fault ≡ of_string own

abbrev pub FailsStrings : List RawItem → WordsFault → Type 0
FailsStrings [] fault = fault ≡ NothingLeft
FailsStrings items fault = AnItemFails items fault

-- one item is a string, or none is there
abbrev pub StatesPerhaps : List RawItem → List ℕ → Type 0
StatesPerhaps [] octets = octets ≡ []
StatesPerhaps (item ∷ items) octets = StatesString item octets

abbrev pub FailsPerhaps : List RawItem → WordsFault → Type 0
FailsPerhaps [] fault = ⊥
FailsPerhaps (item ∷ items) fault = FailsString item fault

-- the text is an item that is one string
abbrev pub IsAString : List ℕ → List ℕ → Type 0
IsAString text octets =
    (item : RawItem) × StatesString item octets × (text ≡ written_item item)

-- a string in quotes, its octets by themselves or by escapes (RFC 1035 5.1)
pub record PrintsString (text octets : List ℕ) : Type 0 where
  pub string : List ℕ
  pub is : IsString string
  pub printed : text ≡ string_text string
  pub value : octets ≡ with_length string

-- such a string as an item
pub record PrintsStringItem (items : List RawItem) (octets : List ℕ) : Type 0 where
  pub string : List ℕ
  pub is : IsString string
  pub printed : items ≡ quoted (inside_text string) ∷ []
  pub value : octets ≡ with_length string

-- no item where there are no octets
abbrev pub PrintsPerhaps : List RawItem → List ℕ → Type 0
PrintsPerhaps [] octets = octets ≡ []
PrintsPerhaps (item ∷ items) octets = PrintsStringItem (item ∷ items) octets

-- one string or more, each in quotes
pub record PrintsStrings (items : List RawItem) (octets : List ℕ) : Type 0 where
  pub strings : List (List ℕ)
  pub are : AreStrings strings
  pub printed : items ≡ map (λ string. quoted (inside_text string)) strings
  pub value : octets ≡ flat_map with_length strings
