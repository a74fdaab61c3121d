-- What is proved of any field.
use Rattle.zone_rdata.proofs.Common.{[], ◌++◌, ◌+◌, ◌<◌, ◌*◌, ◌∙◌, ◌∷◌, ◌≡◌, ◌≢◌, ◌≤◌, AllByRecursion, BadNumber, BadRdata, BeginsWithValue, Fault, Field, FieldValue, FitsString, Holds, IsFieldFault, IsGeneric, IsName, IsReal, IsSized, IsTime, Labels, List, Name, Octets, OneString, RawItem, Serial, Some, SpellsField, Strings, Suits, Time, U16, address_text, ap, append-nil, append_cancel_left, arith, bare, bare_name, below_or_not, fault_of, field_at, field_items, field_octets, field_text, fixed, inl, inr, items_after, labels_of-wire_append, length, length-append, length-decimal-le, name, name_text, own_items, part_field, plain, quoted, refl, string, strings, sym, take_at, u16_value, u32_value, ℕ}
use Rattle.std.proofs.lemmas.Nat.{from_be_bytes-to_be_bytes_2, from_be_bytes-to_be_bytes_4}
use Rattle.std.specs.Int.{w16, w32}
use Rattle.zone_name.proofs.Texts.Lengths.{name_text_length}
use Rattle.zone_rdata.proofs.Addresses.AddressChoice.{address_or_not}
use Rattle.zone_rdata.proofs.Addresses.AddressOctets.{address_fixed}
use Rattle.zone_rdata.proofs.Fields.FieldLaws.{AreLow, AreLowItems, FieldChoice, FrontChoice, NameFaultOnce, NameOrFault, NamesNever, NamesOnce, NamesPrinted, mark_text, number_unmarked, plain_front, sized_front}
use Rattle.zone_rdata.proofs.Fields.FieldLengths.{string_length, strings_length}
use Rattle.zone_rdata.proofs.Fields.Name.{front as name_front, front_once as name_front_once, low as low_name, name_unmarked}
use Rattle.zone_rdata.proofs.Fields.Number.{serial_sized, spelled_or_not, time_sized, u16_sized}
use Rattle.zone_rdata.proofs.Fields.Address.{few as address_few, once as address_once, printed as address_printed, sized as address_sized, stands as address_stands, unmarked as address_unmarked}
use Rattle.zone_rdata.proofs.Fields.OneString.{front as string_front, spelt_or_fault as string_or_fault}
use Rattle.zone_rdata.proofs.Fields.Strings.{each_held, each_once, fault_once as strings_fault_once, framed_or_not, front as strings_front, low_each, never as strings_never, printed as strings_printed, spelt_or_fault as strings_or_fault, stand_each}
use Rattle.zone_rdata.proofs.Items.GenericLaws.{decimal-is}
use Rattle.zone_rdata.proofs.Numbers.TimeLaws.{one_time, time_or_not}
use Rattle.zone_rdata.proofs.Octets.StringFields.{strings_back}
use Rattle.zone_rdata.proofs.Strings.StringLaws.{fault-once, printed_spells, printed_stands, string-never_both, string-once}
use Rattle.zone_rdata.proofs.Texts.Standing.{IsPrintedItem, bare_decimal}

-- ---- its octets

-- the field at the beginning of its octets is the value that was written
pub field_back : (f : Field) (v : FieldValue) (rest : List ℕ) → Holds f v → (f ≡ Strings → rest ≡ []) → field_at f (field_octets v ++ rest) ≡ v
field_back f v rest h last = grind (arith, labels_of-wire_append, strings_back, take_at, from_be_bytes-to_be_bytes_2, from_be_bytes-to_be_bytes_4, append-nil)

pub field_low : (f : Field) (v : FieldValue) → Holds f v → AreLow (field_octets v)
field_low f v h = grind (arith, low_name, low_each)

-- a part for the field is a value, of one octet at least
pub field_part : (f : Field) (v : FieldValue) → Suits (Some f) v → FitsString v → IsReal v → Holds (part_field f) v × (0 < length (field_octets v))
field_part f v s fits real = grind (arith, length-append)

-- a field that is no strings takes at most 256 octets: a name at most 255, a string its length and
-- at most 255
pub field_short : (f : Field) (v : FieldValue) → f ≢ Strings → IsSized f → Holds f v → length (field_octets v) ≤ 256
field_short f v many sized h = grind arith

-- octets begin with a value of the field or with none
pub field_front : (f : Field) (octets : List ℕ) → AreLow octets → FrontChoice f octets
field_front Name octets low = name_front octets
field_front Serial octets low = sized_front Serial 4 serial_sized octets low
field_front Time octets low = sized_front Time 4 time_sized octets low
field_front U16 octets low = sized_front U16 2 u16_sized octets low
field_front (Octets n) octets low = sized_front (Octets n) n (address_sized n) octets low
field_front OneString octets low = string_front octets low
field_front Strings octets low = strings_front octets (framed_or_not octets)

plain_at : (f : Field) (octets : List ℕ) (v : FieldValue) (rest : List ℕ) → f ≢ Name → BeginsWithValue f octets v rest → (octets ≡ field_octets v ++ rest) × (field_at f octets ≡ v)
plain_at f octets v rest other b = grind (arith, plain_front, field_back)

plain_once : (f : Field) (octets : List ℕ) (v w : FieldValue) (r s : List ℕ) → f ≢ Name → BeginsWithValue f octets v r → BeginsWithValue f octets w s → (v ≡ w) × (r ≡ s)
plain_once f octets v w r s other x y =
    let at_v = plain_at f octets v r other x in
    let at_w = plain_at f octets w s other y in
    grind (arith, plain_at, append_cancel_left)

pub front_once : (f : Field) (octets : List ℕ) (v w : FieldValue) (r s : List ℕ) → BeginsWithValue f octets v r → BeginsWithValue f octets w s → (v ≡ w) × (r ≡ s)
front_once Name octets v w r s x y = name_front_once octets v w r s x y
front_once f octets v w r s x y = plain_once f octets v w r s (λ e. cc) x y

-- ---- the items that spell it

pub field_holds : (origin : Labels) (f : Field) (items : List RawItem) (v : FieldValue) → SpellsField origin f items v → Holds f v
field_holds origin (Octets n) (bare text ∷ []) (fixed octets) h = address_fixed n text octets h
field_holds origin Strings items (strings many) h = grind (arith, each_held)
field_holds origin f items v h = grind arith

pub field_once : NamesOnce → (origin : Labels) (f : Field) (items : List RawItem) (v w : FieldValue) → SpellsField origin f items v → SpellsField origin f items w → v ≡ w
field_once names origin Name (bare text ∷ []) (name a) (name b) h k = ap name (names (Some origin) text a b h k)
field_once names origin Time (bare text ∷ []) (u32_value a) (u32_value b) h k = ap u32_value (one_time text a b h.0 k.0)
field_once names origin (Octets n) (bare text ∷ []) (fixed a) (fixed b) h k = ap fixed (address_once n text a b h k)
field_once names origin OneString (item ∷ []) (string a) (string b) h k = ap string (string-once item a b h k)
field_once names origin Strings items (strings a) (strings b) h k = ap strings (each_once items a b h.each k.each)
field_once names origin f items v w h k = grind arith

pub field_never : NamesNever → (origin : Labels) (f : Field) (items : List RawItem) (v : FieldValue) (fault : Fault) → SpellsField origin f items v → IsFieldFault origin f items fault → ⊥
field_never names origin Name (bare text ∷ []) (name labels) fault h bad = names (Some origin) text labels bad.0 h bad.1
field_never names origin OneString (item ∷ []) (string octets) fault h bad = string-never_both item octets fault h bad
field_never names origin Strings items (strings many) fault h bad = strings_never items many fault h bad
field_never names origin (Octets n) (bare text ∷ []) (fixed octets) fault h bad = bad.1 octets h
field_never names origin Serial (bare text ∷ []) (u32_value n) fault h bad = bad.1 n h
field_never names origin Time (bare text ∷ []) (u32_value n) fault h bad = bad.1 n h
field_never names origin U16 (bare text ∷ []) (u16_value n) fault h bad = bad.1 n h
field_never names origin f items v fault h bad = h

pub field_or_fault : NameOrFault → (origin : Labels) → IsName origin → (f : Field) (items : List RawItem) → AreLowItems items → FieldChoice origin f (own_items f items)
field_or_fault names origin is OneString items low = string_or_fault origin items low
field_or_fault names origin is Strings items low = strings_or_fault origin items low
field_or_fault names origin is f [] low = inr (BadRdata, refl)
field_or_fault names origin is f (quoted text ∷ items) low = inr (BadRdata, refl)
field_or_fault names origin is Name (bare text ∷ items) low = elim (names (Some origin) text is low.0) [ inl found ↦ inl (name found.0, found.1) | inr bad ↦ inr (fault_of bad.0, (bad.0, bad.1, refl)) ]
field_or_fault names origin is Serial (bare text ∷ items) low = elim (spelled_or_not w32 text) [ inl found ↦ inl (u32_value found.0, found.1) | inr none ↦ inr (BadNumber, (refl, none)) ]
field_or_fault names origin is Time (bare text ∷ items) low = elim (below_or_not (IsTime text) 4294967296 (one_time text) (time_or_not text)) [ inl found ↦ inl (u32_value found.0, found.1) | inr none ↦ inr (BadNumber, (refl, none)) ]
field_or_fault names origin is U16 (bare text ∷ items) low = elim (spelled_or_not w16 text) [ inl found ↦ inl (u16_value found.0, found.1) | inr none ↦ inr (BadNumber, (refl, none)) ]
field_or_fault names origin is (Octets n) (bare text ∷ items) low = elim (address_or_not n text) [ inl found ↦ inl (fixed found.0, found.1) | inr none ↦ inr (BadRdata, (refl, none)) ]

pub field_fault_once : NameFaultOnce → (origin : Labels) (f : Field) (items : List RawItem) (a b : Fault) → IsFieldFault origin f items a → IsFieldFault origin f items b → a ≡ b
field_fault_once names origin Strings items a b x y = strings_fault_once items a b x y
field_fault_once names origin OneString (item ∷ items) a b x y = fault-once item a b x y
field_fault_once names origin Name (bare text ∷ items) a b x y = grind arith
field_fault_once names origin f (bare text ∷ items) a b x y = x.0 ∙ sym y.0
field_fault_once names origin f items a b x y = x ∙ sym y

-- ---- the items that are printed

pub field_printed : NamesPrinted → (origin : Labels) (f : Field) (v : FieldValue) (rest : List RawItem) → IsSized f → Holds f v → (f ≡ Strings → rest ≡ []) → SpellsField origin f (own_items f (field_items v ++ rest)) v × (items_after f (field_items v ++ rest) ≡ rest)
field_printed names origin Name (name labels) rest sized h last = (names (Some origin) labels h, refl)
field_printed names origin (Octets n) (fixed octets) rest sized h last = (address_printed n octets sized h, refl)
field_printed names origin OneString (string octets) rest sized h last = (printed_spells octets h, refl)
field_printed names origin Strings (strings many) rest sized h last = strings_printed many rest h (last refl)
field_printed names origin f v rest sized h last = grind (arith, decimal-is, plain)

pub field_stands : (f : Field) (v : FieldValue) → IsSized f → Holds f v → AllByRecursion IsPrintedItem (field_items v)
field_stands f v sized h = grind (arith, bare_name, bare_decimal, address_stands, printed_stands, stand_each)

pub field_unmarked : (f : Field) (v : FieldValue) (rest : List RawItem) → IsSized f → Holds f v → IsGeneric (field_items v ++ rest) → ⊥
field_unmarked f (name labels) rest sized h g = name_unmarked labels (mark_text (name_text labels) rest g)
field_unmarked (Octets n) (fixed octets) rest sized h g = address_unmarked n octets sized h (mark_text (address_text octets) rest g)
field_unmarked f (string octets) rest sized h g = cc g.1
field_unmarked f (strings (octets ∷ many)) rest sized h g = cc g.1
field_unmarked f v rest sized h g = grind (arith, mark_text, number_unmarked)

-- ---- how long its text is

pub field_few : (f : Field) (v : FieldValue) → IsSized f → Holds f v → length (field_text v) + 1 ≤ 4 * length (field_octets v)
field_few f v sized h = grind (arith, name_text_length, length-decimal-le 5, length-decimal-le 10, address_few, string_length, strings_length)
