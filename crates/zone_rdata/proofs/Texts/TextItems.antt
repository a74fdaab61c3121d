-- The canonical text of data is its items, they stand in a file as they are, and they state that
-- data.
use Rattle.zone_rdata.proofs.Common.{bare_unit, escaped, [], List, None, Option, Some, ap, arith, drop, length, map, refl, sym, ℕ, ◌++◌, ◌<◌, ◌∙◌, ◌∷◌, ◌≡◌, ◌≤◌, AllByRecursion, flat_map, join_with_byte, append-nil, map-append, flat_map-append, AllByRecursion-append, AreOctets, Labels, Field, FieldValue, HoldEach, Holds, field_items, field_text, values_of, string_item, digit_items, IsGeneric, RawItem, IsLayout, IsSized, StringsLast, layout, laid_out_text, Data, IsRdata, SpellEach, StatesFor, in_octets, in_words, string_text, data_items, data_text, laid_out_items, written_item, common_steps, Strings}
use Rattle.zone_rdata.proofs.Fields.AnyField.{field_printed, field_stands, field_unmarked}
use Rattle.zone_rdata.proofs.Fields.FieldLaws.{NamesPrinted}
use Rattle.zone_rdata.proofs.Items.GenericLaws.{printed_stated, printed_text}
use Rattle.zone_rdata.proofs.Octets.Layouts.{AreFor, table_sized}
use Rattle.zone_rdata.proofs.Texts.Standing.{IsPrintedItem, bare_decimal, bare_hex}
use Rattle.zone_rdata.proofs.Words.Tables.{table_row}
use Rattle.zone_rdata.proofs.Texts.FieldTexts.{joined_more}

-- ---- the text is the items

-- texts with a space before each
abbrev all_spaced : List (List ℕ) → List ℕ
all_spaced texts = flat_map (λ t. 32 ∷ t) texts

joined_spaced : (texts : List (List ℕ)) → join_with_byte 32 texts ≡ drop 1 (all_spaced texts)
joined_spaced [] = refl
joined_spaced (text ∷ texts) = joined_more text texts

written_strings : (many : List (List ℕ)) → map written_item (map string_item many) ≡ map string_text many
written_strings [] = refl
written_strings (octets ∷ many) = ap (λ texts. string_text octets ∷ texts) (written_strings many)

strings_spaced : (many : List (List ℕ)) → 0 < length many → all_spaced (map written_item (map string_item many)) ≡ 32 ∷ join_with_byte 32 (map string_text many)
strings_spaced [] some = absurd (omega arith)
strings_spaced (octets ∷ many) some = ap all_spaced (written_strings (octets ∷ many)) ∙ ap (λ t. 32 ∷ t) (sym (joined_more (string_text octets) (map string_text many)))

field_spaced : (f : Field) (v : FieldValue) → Holds f v → all_spaced (map written_item (field_items v)) ≡ 32 ∷ field_text v
field_spaced f v h = grind (arith, strings_spaced, append-nil)

each_spaced : (row : List Field) (values : List FieldValue) → HoldEach row values → all_spaced (map written_item (flat_map field_items values)) ≡ all_spaced (map field_text values)
each_spaced (f ∷ row) (v ∷ values) h = grind (arith, each_spaced row values h.1, map-append, flat_map-append, field_spaced)
each_spaced row values h = grind arith

written_for : (laid : Option (List Field)) (octets : List ℕ) → AreFor laid octets → laid_out_text laid octets ≡ join_with_byte 32 (map written_item (laid_out_items laid octets))
written_for None octets value = grind (arith, printed_text)
written_for (Some row) octets value = grind (arith, joined_spaced, each_spaced)

-- what is printed field by field is the text
pub data_written : (d : Data) → IsRdata d → laid_out_text (layout d.class d.kind) d.octets ≡ data_text d
data_written d h = written_for (layout d.class d.kind) d.octets h.octets.value

-- ---- the items stand in a file as they are

abbrev ArePrintedItems : List RawItem → Type 0
ArePrintedItems items = AllByRecursion IsPrintedItem items

digits_stand : (octets : List ℕ) → AreOctets octets → ArePrintedItems (digit_items octets)
digits_stand [] low = tt
digits_stand (c ∷ octets) low = (bare_hex c octets low, tt)

each_stand : (row : List Field) (values : List FieldValue) → AllByRecursion IsSized row → HoldEach row values → ArePrintedItems (flat_map field_items values)
each_stand (f ∷ row) (v ∷ values) sized h = grind (arith, each_stand row values sized.1 h.1, AllByRecursion-append, field_stands)
each_stand row values sized h = grind arith

laid_out_stand : (laid : Option (List Field)) (octets : List ℕ) → ((row : List Field) → laid ≡ Some row → IsLayout row) → length octets ≤ 65535 → AreOctets octets → AreFor laid octets → ArePrintedItems (laid_out_items laid octets)
laid_out_stand None octets table short low value = (bare_unit (escaped 35) (refl, (λ e. omega arith), (λ e. omega arith)), (bare_decimal (length octets) (omega arith), digits_stand octets low))
laid_out_stand (Some row) octets table short low value = each_stand row (values_of row octets) (table row refl).sized value.held

pub data_stands : (d : Data) → IsRdata d → AllByRecursion IsPrintedItem (data_items d)
data_stands d h = laid_out_stand (layout d.class d.kind) d.octets (table_row d.class d.kind) h.octets.short h.octets.each h.octets.value

-- ---- there is one item at least

each_some : (row : List Field) (values : List FieldValue) → 0 < length row → HoldEach row values → 0 < length (flat_map field_items values)
each_some [] values some h = absurd (omega arith)
each_some (f ∷ row) values some h = grind (arith, common_steps)

laid_out_some : (laid : Option (List Field)) (octets : List ℕ) → ((row : List Field) → laid ≡ Some row → 0 < length row) → AreFor laid octets → 0 < length (laid_out_items laid octets)
laid_out_some None octets table value = omega arith
laid_out_some (Some row) octets table value = each_some row (values_of row octets) (table row refl) value.held

pub data_some : (d : Data) → IsRdata d → 0 < length (data_items d)
data_some d h = grind (arith, laid_out_some)

-- ---- the items spell the values

-- a field before the others
next_spelt : NamesPrinted → (origin : Labels) (f : Field) (row : List Field) (v : FieldValue) (items : List RawItem) (values : List FieldValue) → IsSized f → Holds f v → (f ≡ Strings → items ≡ []) → SpellEach origin row items values → SpellEach origin (f ∷ row) (field_items v ++ items) (v ∷ values)
next_spelt names origin f row v items values sized h last rest = grind (arith, field_printed)

each_spelt : NamesPrinted → (origin : Labels) (row : List Field) (values : List FieldValue) → StringsLast row → AllByRecursion IsSized row → HoldEach row values → SpellEach origin row (flat_map field_items values) values
each_spelt names origin (f ∷ []) (v ∷ []) last sized h = next_spelt names origin f [] v [] [] sized.0 h.0 (λ e. refl) tt
each_spelt names origin (f ∷ g ∷ row) (v ∷ values) last sized h =
    next_spelt names origin f (g ∷ row) v (flat_map field_items values) values sized.0 h.0 (λ e. absurd (last.0 e)) (each_spelt names origin (g ∷ row) values last.1 sized.1 h.1)
each_spelt names origin row values last sized h = grind arith

-- ---- the first item is not the mark of the generic form

fields_unmarked : (row : List Field) (values : List FieldValue) → AllByRecursion IsSized row → HoldEach row values → IsGeneric (flat_map field_items values) → ⊥
fields_unmarked (f ∷ row) (v ∷ values) sized h g = field_unmarked f v (flat_map field_items values) sized.0 h.0 g
fields_unmarked row values sized h g = grind arith

-- ---- the items state the data

pub stated_for : NamesPrinted → (origin : Labels) (laid : Option (List Field)) (octets : List ℕ) → ((row : List Field) → laid ≡ Some row → IsLayout row) → length octets ≤ 65535 → AreOctets octets → AreFor laid octets → StatesFor origin laid (laid_out_items laid octets) octets
stated_for names origin None octets table short each value = in_octets (octets, printed_stated octets each short, refl)
stated_for names origin (Some row) octets table short each value =
    let values = values_of row octets in
    let sound = table row refl in
    in_words row values refl (fields_unmarked row values sound.sized value.held) (each_spelt names origin row values sound.last sound.sized value.held) (sym value.whole) short

-- and so is what is printed for its layout
pub printed_as : (laid : Option (List Field)) (held d : Data) → held ≡ d → IsRdata held → laid ≡ layout held.class held.kind → laid_out_text laid held.octets ≡ data_text d
printed_as laid held d is h e = ap (λ l. laid_out_text l held.octets) e ∙ data_written held h ∙ ap data_text is

pub ruleset printed_data = (data_written, table_sized)
