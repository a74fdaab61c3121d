-- Several strings: one or more character-strings, up to the end of the data (RFC 1035 3.3.14).
use Rattle.std.specs.Prelude.{◌≡◌, ℕ, zero, suc, ◌<◌, List, [], ◌∷◌, length, take, drop, map, ◌⊎◌}
use Rattle.std.specs.List.{join_with_byte, AllByRecursion, AllZip}
use Rattle.zone_rdata.specs.declared.fault.Fault.{Fault}
use Rattle.zone_rdata.specs.declared.fault.Fault.TheVariants.{BadRdata}
use Rattle.zone_rdata.specs.Item.{RawItem}
use Rattle.zone_rdata.specs.Strings.{IsString, SpellsString, StringFault, string_text}

-- one string or more
pub record AreStrings (many : List (List ℕ)) : Type 0 where
  pub some : 0 < length many
  pub each : AllByRecursion IsString many

-- the strings one after another in octets, at most n of them
abbrev pub strings_by : ℕ → List ℕ → List (List ℕ)
strings_by zero octets = []
strings_by (suc n) [] = []
strings_by (suc n) (c ∷ octets) = take c octets ∷ strings_by n (drop c octets)

-- the strings that octets hold: the inverse of joining them
unfoldable pub strings_of : List ℕ → List (List ℕ)
strings_of octets = strings_by (length octets) octets

-- one item or more spell the strings, an item each
pub record SpellsStrings (items : List RawItem) (many : List (List ℕ)) : Type 0 where
  pub some : 0 < length items
  pub each : AllZip SpellsString items many

-- the fault of the leftmost item that spells no string
abbrev pub FirstStringFault : List RawItem → Fault → Type 0
FirstStringFault [] fault = ⊥
FirstStringFault (item ∷ items) fault =
    StringFault item fault
    ⊎ ((octets : List ℕ) × SpellsString item octets × FirstStringFault items fault)

-- why items spell no strings: there is no item, or the leftmost that spells none
abbrev pub StringsFault : List RawItem → Fault → Type 0
StringsFault [] fault = fault ≡ BadRdata
StringsFault items fault = FirstStringFault items fault

-- in quotes, parted by single spaces
abbrev pub strings_text : List (List ℕ) → List ℕ
strings_text many = join_with_byte 32 (map string_text many)
