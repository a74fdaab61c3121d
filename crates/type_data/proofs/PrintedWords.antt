-- Words that are printed aren't the generic form: their first item isn't its mark.
use Rattle.type_data.proofs.Common.{Bool, IsGeneric, List, NamedField, RawItem, TouchingItem, [], ap, append-nil, arith, false, false≢true, generic_mark, length, refl, subst, sym, true, ℕ, ◌++◌, ◌∙◌, ◌∷◌, ◌≡◌, ◌≢◌, early_types, late_types, signed_types, FurtherType, further_types, list_all}
use Rattle.zone_rdata.specs.Item.{bare}
use Rattle.zone_rdata.specs.Strings.{inside_text}
use Rattle.type_data.proofs.OfKinds.Number.Printed.{u16_printed_states, u32_printed_states, u8_printed_states}
use Rattle.type_data.proofs.OfKinds.Eui.ReadAgain.{eui_printed_states}
use Rattle.type_data.proofs.OfKinds.Prefixes.Printed.{prefixes_printed_state}
use Rattle.type_data.proofs.PrintedRows.{passed, passes}
use Rattle.type_data.proofs.PrintedStates.{items_apart, last_prints_all, one_item}
use Rattle.type_data.specs.DataItem.{items_of}
use Rattle.type_data.specs.Kinds.Base64.{IsBase64, PrintsBase64}
use Rattle.type_data.specs.Kinds.Hexadecimal.{IsLowerHex, PrintsHex}
use Rattle.type_data.specs.Machine.PrintedFields.{OnlyLastPrintsAll}
use Rattle.type_data.specs.PrintedData.{AreOfAType, PrintParts, PrintsApart, PrintsBare, PrintsData, PrintsField}
use Rattle.type_data.specs.Table.{Fields, fields_in, of_amtrelay, of_hip, of_ipseckey, same}
use Rattle.type_data.specs.declared.field.BareKind.{BareKind}
use Rattle.type_data.specs.declared.field.BareKind.TheVariants.{CertificateType, Eui48, Eui64, Name, RecordType, U8, U16, U32}
use Rattle.type_data.specs.declared.field.FieldKind.{FieldKind}
use Rattle.type_data.specs.declared.field.FieldKind.TheVariants.{Bare, Base64, Hex, Location, OneString, Prefixes, Strings}
use Rattle.type_data.proofs.Printed.Marks.{marked, no_digits, text_marked}
use Rattle.type_data.proofs.OfKinds.Word.NotGeneric.{no_certificate, no_type}
use Rattle.type_data.proofs.OfKinds.Name.NotGeneric.{no_name}
use Rattle.type_data.proofs.OfKinds.Eui.NotGeneric.{no_eui}
use Rattle.type_data.proofs.OfKinds.Strings.NotGeneric.{string_alone, strings_alone}
use Rattle.type_data.proofs.OfKinds.Prefixes.NotGeneric.{prefixes_alone}
use Rattle.type_data.proofs.OfKinds.Base64.NotGeneric.{base64_alone}
use Rattle.type_data.proofs.OfKinds.Hexadecimal.NotGeneric.{hex_alone}
use Rattle.type_data.proofs.OfKinds.Location.NotGeneric.{location_alone}

-- ---- a bare text

abbrev is_plain_bare : BareKind → Bool
is_plain_bare U8 = true
is_plain_bare U16 = true
is_plain_bare U32 = true
is_plain_bare CertificateType = true
is_plain_bare RecordType = true
is_plain_bare Name = true
is_plain_bare Eui48 = true
is_plain_bare Eui64 = true
is_plain_bare kind = false

bare_plain : (kind : BareKind) (octets : List ℕ) → is_plain_bare kind ≡ true → PrintsBare kind marked octets → ⊥
bare_plain U8 octets plain printed = let states = u8_printed_states marked octets printed in no_digits states.number states.stated
bare_plain U16 octets plain printed = let states = u16_printed_states marked octets printed in no_digits states.number states.stated
bare_plain U32 octets plain printed = let states = u32_printed_states marked octets printed in no_digits states.number states.stated
bare_plain CertificateType octets plain printed = no_certificate octets printed
bare_plain RecordType octets plain printed = no_type octets printed
bare_plain Name octets plain printed = no_name octets printed
bare_plain Eui48 octets plain printed = no_eui 6 octets (omega arith) (eui_printed_states 6 marked octets printed)
bare_plain Eui64 octets plain printed = no_eui 8 octets (omega arith) (eui_printed_states 8 marked octets printed)
bare_plain kind octets plain printed = absurd (false≢true plain)

bare_alone : (kind : BareKind) (alone : List RawItem) (octets : List ℕ) → is_plain_bare kind ≡ true → (text : List ℕ) → PrintsBare kind text octets → alone ≡ bare text ∷ [] → IsGeneric alone → ⊥
bare_alone kind alone octets plain text printed is generic =
    bare_plain kind octets plain (subst (λ t. PrintsBare kind t octets) (text_marked text [] generic.0 (sym is ∙ generic.1)) printed)

-- ---- a field

abbrev is_plain : FieldKind → Bool
is_plain (Bare kind) = is_plain_bare kind
is_plain OneString = true
is_plain Strings = true
is_plain Prefixes = true
is_plain Base64 = true
is_plain Hex = true
is_plain Location = true
is_plain kind = false

alone_again : (Prints : List RawItem → List ℕ → Type 0) (items : List TouchingItem) (octets : List ℕ) (printed : PrintsApart Prints items octets) → IsGeneric (items_of items) → IsGeneric printed.alone
alone_again Prints items octets printed generic = subst IsGeneric (ap items_of printed.are_apart ∙ items_apart printed.alone) generic

base64_field : (alone : List RawItem) (octets : List ℕ) → PrintsBase64 alone octets → IsGeneric alone → ⊥
base64_field alone octets printed generic = base64_alone octets (subst (λ t. IsBase64 t octets) (text_marked printed.0 [] generic.0 (sym printed.2 ∙ generic.1)) printed.1)

hex_field : (alone : List RawItem) (octets : List ℕ) → PrintsHex alone octets → IsGeneric alone → ⊥
hex_field alone octets printed generic = hex_alone octets (subst (λ t. IsLowerHex t octets) (text_marked printed.0 [] generic.0 (sym printed.2 ∙ generic.1)) printed.1)

field_plain : (kind : FieldKind) (items : List TouchingItem) (octets : List ℕ) → is_plain kind ≡ true → PrintsField kind items octets → IsGeneric (items_of items) → ⊥
field_plain (Bare kind) items octets plain printed generic =
    let one = printed.printed in
    bare_alone kind printed.alone octets plain one.0 one.1 one.2 (alone_again _ items octets printed generic)
field_plain OneString items octets plain printed generic = string_alone printed.alone octets printed.printed (alone_again _ items octets printed generic)
field_plain Strings items octets plain printed generic =
    let again = alone_again _ items octets printed generic in
    strings_alone printed.printed.strings again.0 inside_text (sym printed.printed.printed ∙ again.1)
field_plain Prefixes items octets plain printed generic = prefixes_alone printed.alone octets (prefixes_printed_state printed.alone octets printed.printed) (alone_again _ items octets printed generic)
field_plain Base64 items octets plain printed generic = base64_field printed.alone octets printed.printed (alone_again _ items octets printed generic)
field_plain Hex items octets plain printed generic = hex_field printed.alone octets printed.printed (alone_again _ items octets printed generic)
field_plain Location items octets plain printed generic = location_alone printed.alone octets printed.printed (alone_again _ items octets printed generic)
field_plain kind items octets plain printed generic = absurd (false≢true plain)

-- ---- field after field

generic_front : (own rest : List TouchingItem) → length own ≡ 1 → IsGeneric (items_of (own ++ rest)) → IsGeneric (items_of own)
generic_front [] rest one generic = absurd (omega (arith, one))
generic_front (x ∷ own) rest one generic = (let first : x.item ≡ generic_mark = (let e = generic.1 in cc) in (items_of own, ap (λ i. i ∷ items_of own) first))

abbrev begin_plain : List NamedField → Bool
begin_plain [] = true
begin_plain (f ∷ fields) = is_plain f.kind

parts_plain : (fields : List NamedField) → begin_plain fields ≡ true → OnlyLastPrintsAll fields → (items : List TouchingItem) (parts : List (List ℕ)) → PrintParts fields items parts → IsGeneric (items_of items) → ⊥
parts_plain [] plain last items [] printed generic = (let none : items_of [] ≡ generic_mark ∷ generic.0 = sym (ap items_of printed) ∙ generic.1 in cc none)
parts_plain [] plain last items (part ∷ parts) printed generic = printed
parts_plain (f ∷ fields) plain last items [] printed generic = printed
parts_plain (f ∷ []) plain last items (part ∷ []) printed generic =
    let own : items ≡ printed.0 = printed.2 ∙ ap (λ t. printed.0 ++ t) printed.4 ∙ append-nil printed.0 in
    field_plain f.kind printed.0 part plain printed.3 (subst (λ t. IsGeneric (items_of t)) own generic)
parts_plain (f ∷ []) plain last items (part ∷ next ∷ parts) printed generic = printed.4
parts_plain (f ∷ g ∷ fields) plain last items (part ∷ parts) printed generic =
    field_plain f.kind printed.0 part plain printed.3 (generic_front printed.0 printed.1 (one_item f.kind printed.0 part last.0 printed.3) (subst (λ t. IsGeneric (items_of t)) printed.2 generic))

-- ---- the data of a type

begin_each_plain : list_all (λ (f : FurtherType). passes begin_plain f.fields) further_types ≡ true
unfolding early_types late_types signed_types
begin_each_plain = refl

plain_fields : (fields : Fields) → AreOfAType fields → (items : List TouchingItem) → begin_plain (fields_in fields items) ≡ true
plain_fields (same fields) are items = passed begin_plain begin_each_plain are.further are.row fields are.are
plain_fields of_ipseckey are items = refl
plain_fields of_amtrelay are items = refl
plain_fields of_hip are items = refl

pub printed_in_words : (fields : Fields) → AreOfAType fields → (items : List TouchingItem) (octets : List ℕ) → PrintsData fields items octets → IsGeneric (items_of items) → ⊥
printed_in_words fields are items octets printed generic =
    parts_plain (fields_in fields items) (plain_fields fields are items) (last_prints_all fields are items) items printed.parts printed.each generic
