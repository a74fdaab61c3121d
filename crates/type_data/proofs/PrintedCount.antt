-- An entry with words that are printed never has too many items: a field has one, one for each octet
-- at most, or those of types, of which there are 65,536.
use Rattle.type_data.proofs.Common.{AllByRecursion, Bool, List, NamedField, None, Option, Some, TouchingItem, [], and_parts, ap, arith, false, false≢true, if◌then◌else◌, length, length-append, list_all, refl, true, ℕ, ◌&&◌, ◌+◌, ◌++◌, ◌==◌, ◌∷◌, ◌≡◌, ◌≤◌, FurtherType, further_types, early_types, late_types, signed_types}
use Rattle.type_data.proofs.OfKinds.Prefixes.Printed.{prefixes_printed_state}
use Rattle.type_data.proofs.PrintedRows.{nine_fields, passed, passes}
use Rattle.type_data.proofs.PrintedStates.{apart_count, last_prints_all, one_item, perhaps_one}
use Rattle.type_data.specs.Data.{in_order, joined, lengths_first}
use Rattle.type_data.specs.Machine.PrintedFields.{OnlyLastPrintsAll}
use Rattle.type_data.specs.PrintedData.{AreOfAType, PrintParts, PrintsData, PrintsField}
use Rattle.type_data.specs.Table.{Fields, fields_in, key_kind, number_at, of_amtrelay, of_hip, of_ipseckey, same}
use Rattle.type_data.specs.declared.field.BareKind.TheVariants.{Name}
use Rattle.type_data.specs.declared.field.FieldKind.{FieldKind}
use Rattle.type_data.specs.declared.field.FieldKind.TheVariants.{Bare, Base64, Each, Hex, Location, Nothing, OneString, Parameters, PerhapsOneString, PerhapsTypes, Prefixes, QuotedValue, Strings, Types, Value}
use Rattle.type_data.proofs.OfKinds.Strings.Count.{strings_few}
use Rattle.type_data.proofs.OfKinds.Name.Count.{names_few}
use Rattle.type_data.proofs.OfKinds.Prefixes.Count.{prefixes_stated}
use Rattle.type_data.proofs.OfParameters.Count.{parameters_few}
use Rattle.type_data.proofs.OfKinds.Types.Count.{types_few}
use Rattle.type_data.proofs.OfKinds.Location.Count.{location_few}

-- ---- a field

-- of fields with an item for each part of their octets each is a name
abbrev is_counted : FieldKind → Bool
is_counted (Each Name) = true
is_counted (Each kind) = false
is_counted kind = true

field_few : (kind : FieldKind) (items : List TouchingItem) (octets : List ℕ) → is_counted kind ≡ true → PrintsField kind items octets → length octets ≤ 65535 → length items ≤ 65536
field_few (Bare kind) items octets counted printed short = omega (arith, one_item (Bare kind) items octets refl printed)
field_few OneString items octets counted printed short = omega (arith, one_item OneString items octets refl printed)
field_few PerhapsOneString items octets counted printed short = omega (arith, apart_count _ items octets printed, perhaps_one printed.alone octets printed.printed)
field_few (Each Name) items octets counted printed short = omega (arith, apart_count _ items octets printed, names_few printed.alone octets printed.printed, short)
field_few (Each kind) items octets counted printed short = absurd (false≢true counted)
field_few Value items octets counted printed short = omega (arith, apart_count _ items octets printed, ap length printed.printed.1)
field_few QuotedValue items octets counted printed short = omega (arith, apart_count _ items octets printed, ap length printed.printed.1)
field_few Strings items octets counted printed short = omega (arith, apart_count _ items octets printed, strings_few printed.alone octets printed.printed, short)
field_few Hex items octets counted printed short = omega (arith, apart_count _ items octets printed, ap length printed.printed.2)
field_few Base64 items octets counted printed short = omega (arith, apart_count _ items octets printed, ap length printed.printed.2)
field_few Types items octets counted printed short = omega (arith, apart_count _ items octets printed, types_few printed.alone octets printed.printed.types)
field_few PerhapsTypes items octets counted printed short = omega (arith, apart_count _ items octets printed, types_few printed.alone octets printed.printed)
field_few Prefixes items octets counted printed short = omega (arith, apart_count _ items octets printed, prefixes_stated printed.alone octets (prefixes_printed_state printed.alone octets printed.printed), short)
field_few Location items octets counted printed short = omega (arith, apart_count _ items octets printed, location_few printed.alone octets printed.printed)
field_few Nothing items octets counted printed short = omega (arith, apart_count _ items octets printed, ap length printed.printed.0)
field_few Parameters items octets counted printed short = omega (arith, parameters_few items octets printed, short)

-- ---- field after field

abbrev AreShort : List (List ℕ) → Type 0
AreShort parts = AllByRecursion (λ part. length part ≤ 65535) parts

abbrev are_counted : List NamedField → Bool
are_counted fields = list_all (λ (f : NamedField). is_counted f.kind) fields

parts_few : (fields : List NamedField) → are_counted fields ≡ true → OnlyLastPrintsAll fields → (items : List TouchingItem) (parts : List (List ℕ)) → AreShort parts → PrintParts fields items parts → length items ≤ length fields + 65536
parts_few [] counted last items [] short printed = omega (arith, ap length printed)
parts_few [] counted last items (part ∷ parts) short printed = absurd printed
parts_few (f ∷ fields) counted last items [] short printed = absurd printed
parts_few (f ∷ []) counted last items (part ∷ []) short printed =
    omega (arith, ap length printed.2, ap length printed.4, length-append printed.0 printed.1, field_few f.kind printed.0 part (and_parts (is_counted f.kind) true counted).0 printed.3 short.0)
parts_few (f ∷ []) counted last items (part ∷ next ∷ parts) short printed = absurd printed.4
parts_few (f ∷ g ∷ fields) counted last items (part ∷ parts) short printed =
    let more = parts_few (g ∷ fields) (and_parts (is_counted f.kind) (are_counted (g ∷ fields)) counted).1 last.1 printed.1 parts short.1 printed.4 in
    omega (arith, more, ap length printed.2, length-append printed.0 printed.1, one_item f.kind printed.0 part last.0 printed.3)

-- ---- the data of a type

short_joined : (parts : List (List ℕ)) → length (joined parts) ≤ 65535 → AreShort parts
short_joined [] short = tt
short_joined (part ∷ parts) short =
    let whole = length-append part (joined parts) in
    (omega (arith, short, whole), short_joined parts (omega (arith, short, whole)))

short_in_front : (parts : List (List ℕ)) → length (lengths_first parts) ≤ 65535 → AreShort parts
short_in_front (algorithm ∷ (tag_length ∷ tag) ∷ (high ∷ low ∷ key) ∷ servers ∷ []) short =
    let front = length-append (tag_length ∷ algorithm) (high ∷ low ∷ tag) in
    let keyed = length-append ((tag_length ∷ algorithm) ++ (high ∷ low ∷ tag)) key in
    let whole = length-append (((tag_length ∷ algorithm) ++ (high ∷ low ∷ tag)) ++ key) servers in
    (omega (arith, short, front, keyed, whole), (omega (arith, short, front, keyed, whole), (omega (arith, short, front, keyed, whole), (omega (arith, short, front, keyed, whole), tt))))
short_in_front parts short = short_joined parts short

ordered_short : (fields : Fields) (parts : List (List ℕ)) → length (in_order fields parts) ≤ 65535 → AreShort parts
ordered_short of_hip parts short = short_in_front parts short
ordered_short (same fields) parts short = short_joined parts short
ordered_short of_ipseckey parts short = short_joined parts short
ordered_short of_amtrelay parts short = short_joined parts short

-- a key has one item or none
key_counted : (test : Bool) → (is_counted (if test then Nothing else Base64) && true) ≡ true
key_counted true = refl
key_counted false = refl

ipseckey_counted : (kind : Option ℕ) → (is_counted (key_kind kind) && true) ≡ true
ipseckey_counted None = refl
ipseckey_counted (Some n) = key_counted (n == 0)

each_is_counted : list_all (λ (f : FurtherType). passes are_counted f.fields) further_types ≡ true
unfolding early_types late_types signed_types
each_is_counted = refl

counted_fields : (fields : Fields) → AreOfAType fields → (items : List TouchingItem) → are_counted (fields_in fields items) ≡ true
counted_fields (same fields) are items = passed are_counted each_is_counted are.further are.row fields are.are
counted_fields of_ipseckey are items = ipseckey_counted (number_at items 2)
counted_fields of_amtrelay are items = refl
counted_fields of_hip are items = refl

nine_at_most : (fields : Fields) → AreOfAType fields → (items : List TouchingItem) → length (fields_in fields items) ≤ 9
nine_at_most (same fields) are items = nine_fields are.further are.row fields are.are
nine_at_most of_ipseckey are items = omega arith
nine_at_most of_amtrelay are items = omega arith
nine_at_most of_hip are items = omega arith

pub few_printed_items : (fields : Fields) → AreOfAType fields → (items : List TouchingItem) (octets : List ℕ) → PrintsData fields items octets → length items ≤ 65545
few_printed_items fields are items octets printed =
    let short = ordered_short fields printed.parts (omega (arith, printed.short, ap length printed.value)) in
    let few = parts_few (fields_in fields items) (counted_fields fields are items) (last_prints_all fields are items) items printed.parts short printed.each in
    omega (arith, few, nine_at_most fields are items)
