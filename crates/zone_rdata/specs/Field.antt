-- What the fields of record data hold (RFC 1035 3.3): for each kind of field its values, their
-- octets, the items that spell them and the fault of items that don't. What is said of a kind
-- stands in `Fields`, a file each.
use Rattle.std.specs.Prelude.{◌≡◌, ℕ, ◌<◌, List, [], ◌∷◌, length, take, drop, map, decimal, Bool, true, false, ⊤, Option, Some}
use Rattle.std.specs.Int.{w16, w32, to_be_bytes}
use Rattle.std.specs.List.{flat_map}
use Rattle.zone_name.specs.Common.{Labels}
use Rattle.zone_name.specs.Name.{with_length, wire, labels_of, IsName}
use Rattle.zone_name.specs.Spelling.{Spells}
use Rattle.zone_name.specs.Text.{name_text}
use Rattle.zone_rdata.specs.declared.fault.Fault.{Fault}
use Rattle.zone_rdata.specs.declared.fault.Fault.TheVariants.{BadRdata, BadNumber}
use Rattle.zone_rdata.specs.declared.field.Field.{Field}
use Rattle.zone_rdata.specs.declared.field.Field.TheVariants.{Name, Serial, Time, U16, Octets, OneString, Strings}
use Rattle.zone_rdata.specs.Fault.{NoValue}
use Rattle.zone_rdata.specs.Fields.Address.{AreFixed, IsAddress, address_text}
use Rattle.zone_rdata.specs.Fields.Name.{IsNameFault, IsSentName}
use Rattle.zone_rdata.specs.Fields.OneString.{string_at, string_item}
use Rattle.zone_rdata.specs.Fields.Number.{IsNumber, SpellsNumber, number_at}
use Rattle.zone_rdata.specs.Fields.Strings.{AreStrings, SpellsStrings, StringsFault, strings_of, strings_text}
use Rattle.zone_rdata.specs.Fields.Time.{SpellsTime}
use Rattle.zone_rdata.specs.Item.{RawItem, bare, quoted}
use Rattle.zone_rdata.specs.Strings.{IsString, SpellsString, StringFault, string_text}

-- the value of one field: a name, a number of 32 or of 16 bits, octets of a fixed number, a string,
-- or strings
pub data FieldValue : Type 0 where
  name : Labels → FieldValue
  u32_value : ℕ → FieldValue
  u16_value : ℕ → FieldValue
  fixed : List ℕ → FieldValue
  string : List ℕ → FieldValue
  strings : List (List ℕ) → FieldValue

-- its octets: a name uncompressed, a number with the highest octet first, a string after its length
abbrev pub field_octets : FieldValue → List ℕ
field_octets (name labels) = wire labels
field_octets (u32_value n) = to_be_bytes w32 n
field_octets (u16_value n) = to_be_bytes w16 n
field_octets (fixed octets) = octets
field_octets (string octets) = with_length octets
field_octets (strings many) = flat_map with_length many

abbrev pub octets_of : List FieldValue → List ℕ
octets_of values = flat_map field_octets values

-- the value is one that the field can hold
abbrev pub Holds : Field → FieldValue → Type 0
Holds Name (name labels) = IsName labels
Holds Serial (u32_value n) = IsNumber w32 n
Holds Time (u32_value n) = IsNumber w32 n
Holds U16 (u16_value n) = IsNumber w16 n
Holds (Octets n) (fixed octets) = AreFixed n octets
Holds OneString (string octets) = IsString octets
Holds Strings (strings many) = AreStrings many
Holds field value = ⊥

-- the value of a field at the beginning of octets; strings are all that is left
abbrev pub field_at : Field → List ℕ → FieldValue
field_at Name octets = name (labels_of octets)
field_at Serial octets = u32_value (number_at w32 octets)
field_at Time octets = u32_value (number_at w32 octets)
field_at U16 octets = u16_value (number_at w16 octets)
field_at (Octets n) octets = fixed (take n octets)
field_at OneString octets = string (string_at octets)
field_at Strings octets = strings (strings_of octets)

-- the values that octets hold, field after field: the inverse of `octets_of`
abbrev pub values_of : List Field → List ℕ → List FieldValue
values_of [] octets = []
values_of (f ∷ fields) octets =
    field_at f octets ∷ values_of fields (drop (length (field_octets (field_at f octets))) octets)

-- the octets of a value as they are sent: a name's labels in any letter case, all else as it is
-- kept
abbrev pub IsSent : FieldValue → List ℕ → Type 0
IsSent (name labels) octets = IsSentName labels octets
IsSent value octets = octets ≡ field_octets value

-- The items spell a value of a field: one bare item a name under the origin, a decimal number, a
-- time or an address; one item, bare or quoted, a string; one or more items strings, one each
abbrev pub SpellsField : Labels → Field → List RawItem → FieldValue → Type 0
SpellsField origin Name (bare text ∷ []) (name labels) = Spells (Some origin) text labels
SpellsField origin Serial (bare text ∷ []) (u32_value n) = SpellsNumber w32 text n
SpellsField origin Time (bare text ∷ []) (u32_value n) = SpellsTime text n
SpellsField origin U16 (bare text ∷ []) (u16_value n) = SpellsNumber w16 text n
SpellsField origin (Octets n) (bare text ∷ []) (fixed octets) = IsAddress n text octets
SpellsField origin OneString (item ∷ []) (string octets) = SpellsString item octets
SpellsField origin Strings items (strings many) = SpellsStrings items many
SpellsField origin field items value = ⊥

-- the items of a field, among those that are left: the first, but strings take all
abbrev pub own_items : Field → List RawItem → List RawItem
own_items Strings items = items
own_items field items = take 1 items

-- the items after them
abbrev pub items_after : Field → List RawItem → List RawItem
items_after Strings items = []
items_after field items = drop 1 items

-- why the items of a field spell no value of it: none is there, one is quoted that has to be bare,
-- or its text
abbrev pub IsFieldFault : Labels → Field → List RawItem → Fault → Type 0
IsFieldFault origin Strings items fault = StringsFault items fault
IsFieldFault origin field [] fault = fault ≡ BadRdata
IsFieldFault origin OneString (item ∷ items) fault = StringFault item fault
IsFieldFault origin field (quoted text ∷ items) fault = fault ≡ BadRdata
IsFieldFault origin Name (bare text ∷ items) fault = IsNameFault origin text fault
IsFieldFault origin Serial (bare text ∷ items) fault =
    NoValue BadNumber (SpellsNumber w32 text) fault
IsFieldFault origin Time (bare text ∷ items) fault = NoValue BadNumber (SpellsTime text) fault
IsFieldFault origin U16 (bare text ∷ items) fault = NoValue BadNumber (SpellsNumber w16 text) fault
IsFieldFault origin (Octets n) (bare text ∷ items) fault = NoValue BadRdata (IsAddress n text) fault

-- the canonical text of a value: a name absolute and in lower case, a number in decimal digits, an
-- address, strings in quotes
abbrev pub field_text : FieldValue → List ℕ
field_text (name labels) = name_text labels
field_text (u32_value n) = decimal n
field_text (u16_value n) = decimal n
field_text (fixed octets) = address_text octets
field_text (string octets) = string_text octets
field_text (strings many) = strings_text many

-- its items: a quoted one for each string, else its text as a bare one
abbrev pub field_items : FieldValue → List RawItem
field_items (string octets) = string_item octets ∷ []
field_items (strings many) = map string_item many
field_items value = bare (field_text value) ∷ []

-- the field takes all that is left
abbrev pub is_strings : Field → Bool
is_strings Strings = true
is_strings field = false

-- the part is one for the field, however many octets a string has; a field of octets has some
abbrev pub Suits : Option Field → FieldValue → Type 0
Suits (Some Name) (name labels) = ⊤
Suits (Some Serial) (u32_value n) = ⊤
Suits (Some Time) (u32_value n) = ⊤
Suits (Some U16) (u16_value n) = ⊤
Suits (Some (Octets n)) (fixed octets) = (length octets ≡ n) × (0 < n)
Suits (Some OneString) (string octets) = ⊤
Suits (Some Strings) (string octets) = ⊤
Suits field part = ⊥
