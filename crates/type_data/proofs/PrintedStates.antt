-- What is printed for data states it, under every origin.
use Rattle.type_data.proofs.Common.{AllZip, Labels, List, NamedField, RawItem, StateParts, StatesBare, StatesData, StatesField, TouchingItem, [], ap, arith, drop, false, false≢true, items_after, length, length-append, length-map, map, min, own_count, own_items, placed, refl, subst, sym, take, text_meaning, true, ℕ, ◌++◌, ◌∙◌, ◌∷◌, ◌≡◌, ◌≤◌}
use Rattle.std.proofs.Math.Seq.{drop-append_seam, take-append_seam}
use Rattle.zone_rdata.proofs.Strings.StringLaws.{printed_spells}
use Rattle.zone_rdata.specs.Item.{bare}
use Rattle.type_data.proofs.OfParameters.PrintedStated.{parameters_printed_state}
use Rattle.type_data.proofs.OfKinds.Address.Printed.{ipv4_printed_states, ipv6_printed_states}
use Rattle.type_data.proofs.OfKinds.Gateway.Printed.{discovery_states, gateway_states}
use Rattle.type_data.proofs.OfKinds.Location.Printed.{location_printed_states}
use Rattle.type_data.proofs.OfKinds.Number.Printed.{algorithm_printed_states, certificate_printed_states, notify_scheme_printed_states, type_printed_states, u16_printed_states, u32_printed_states, u8_printed_states}
use Rattle.type_data.proofs.OfKinds.Eui.ReadAgain.{eui_printed_states}
use Rattle.type_data.proofs.OfKinds.NodeId.ReadAgain.{node_id_printed_states}
use Rattle.type_data.proofs.OfKinds.Prefixes.Printed.{prefixes_printed_state}
use Rattle.type_data.proofs.OfKinds.Base64.ReadAgain.{base64_printed_states}
use Rattle.type_data.proofs.OfKinds.Hexadecimal.ReadAgain.{hex_printed_states}
use Rattle.type_data.proofs.OfKinds.HostIdentity.ReadAgain.{identity_printed_states}
use Rattle.type_data.proofs.OfKinds.Salt.ReadAgain.{salt_printed_states}
use Rattle.type_data.proofs.OfKinds.Strings.ReadAgain.{strings_printed_states}
use Rattle.type_data.proofs.OfKinds.Name.ReadAgain.{name_printed_states}
use Rattle.type_data.proofs.OfKinds.Value.ReadAgain.{bare_or_quoted_value, value_printed_states}
use Rattle.type_data.proofs.OfKinds.Tag.Printed.{tag_printed_states}
use Rattle.type_data.proofs.OfKinds.Time.Printed.{time_printed_states}
use Rattle.type_data.proofs.OfKinds.Types.Printed.{perhaps_types_printed_states, types_printed_states}
use Rattle.type_data.proofs.PrintedRows.{only_last_prints_all}
use Rattle.type_data.specs.Data.{in_order, left_over}
use Rattle.type_data.specs.DataItem.{items_of}
use Rattle.type_data.specs.EachItem.{EachIsPrinted, EachStates}
use Rattle.type_data.specs.FirstItem.{FirstStates}
use Rattle.type_data.specs.Kinds.Hash.{PrintsHash, StatesHash}
use Rattle.type_data.specs.Kinds.Joined.{PrintsOneItem}
use Rattle.type_data.specs.Kinds.Strings.{PrintsPerhaps, PrintsStringItem, StatesPerhaps, StatesString}
use Rattle.type_data.specs.Machine.PrintedFields.{OnlyLastPrintsAll, prints_all}
use Rattle.type_data.specs.PrintedData.{AreOfAType, PrintParts, PrintsApart, PrintsBare, PrintsData, PrintsField, apart}
use Rattle.type_data.specs.Table.{Fields, fields_in, of_amtrelay, of_hip, of_ipseckey, same}
use Rattle.type_data.specs.declared.field.BareKind.{BareKind}
use Rattle.type_data.specs.declared.field.BareKind.TheVariants.{AddressType, Algorithm, CertificateType, Discovery, Eui48, Eui64, Hash, HostIdentityTag, Ipv4, Ipv6, Name, NoAddress, NodeId, NotifyScheme, PublicKey, RecordType, Salt, Tag, Time, U8, U16, U32}
use Rattle.type_data.specs.declared.field.FieldKind.{FieldKind}
use Rattle.type_data.specs.declared.field.FieldKind.TheVariants.{Bare, Base64, Each, Hex, Location, Nothing, OneString, Parameters, PerhapsOneString, PerhapsTypes, Prefixes, QuotedValue, Strings, Types, Value}

-- ---- a bare text

pub hash_printed_states : (text octets : List ℕ) → PrintsHash text octets → StatesHash text octets
hash_printed_states text octets printed = record { value = printed.value; stands = printed.stands.is; short = printed.short; written = printed.written }

pub bare_printed_states : (origin : Labels) (kind : BareKind) (text octets : List ℕ) → PrintsBare kind text octets → (text_meaning origin kind).States text octets
bare_printed_states origin U8 text octets printed = u8_printed_states text octets printed
bare_printed_states origin U16 text octets printed = u16_printed_states text octets printed
bare_printed_states origin U32 text octets printed = u32_printed_states text octets printed
bare_printed_states origin Algorithm text octets printed = algorithm_printed_states text octets printed
bare_printed_states origin CertificateType text octets printed = certificate_printed_states text octets printed
bare_printed_states origin NotifyScheme text octets printed = notify_scheme_printed_states text octets printed
bare_printed_states origin RecordType text octets printed = type_printed_states text octets printed
bare_printed_states origin Time text octets printed = time_printed_states text octets printed
bare_printed_states origin Name text octets printed = name_printed_states origin text octets printed
bare_printed_states origin Salt text octets printed = salt_printed_states text octets printed
bare_printed_states origin Hash text octets printed = hash_printed_states text octets printed
bare_printed_states origin Tag text octets printed = tag_printed_states text octets printed
bare_printed_states origin Ipv4 text octets printed = ipv4_printed_states text octets printed
bare_printed_states origin Ipv6 text octets printed = ipv6_printed_states text octets printed
bare_printed_states origin (AddressType optional) text octets printed = gateway_states optional text octets printed
bare_printed_states origin Discovery text octets printed = discovery_states text octets printed
bare_printed_states origin NoAddress text octets printed = printed
bare_printed_states origin NodeId text octets printed = node_id_printed_states text octets printed
bare_printed_states origin Eui48 text octets printed = eui_printed_states 6 text octets printed
bare_printed_states origin Eui64 text octets printed = eui_printed_states 8 text octets printed
bare_printed_states origin HostIdentityTag text octets printed = identity_printed_states text octets printed
bare_printed_states origin PublicKey text octets printed = printed

-- ---- the items of a field

one_bare_states : (origin : Labels) (kind : BareKind) (items : List RawItem) (octets : List ℕ) → PrintsOneItem (PrintsBare kind) items octets → FirstStates (StatesBare origin kind) items octets
one_bare_states origin kind items octets printed =
    subst (λ items. FirstStates (StatesBare origin kind) items octets) (sym printed.2) (bare_printed_states origin kind printed.0 octets printed.1)

each_bare : (origin : Labels) (kind : BareKind) (texts parts : List (List ℕ)) → AllZip (PrintsBare kind) texts parts → AllZip (StatesBare origin kind) (map bare texts) parts
each_bare origin kind [] [] each = tt
each_bare origin kind [] (part ∷ parts) each = each
each_bare origin kind (text ∷ texts) [] each = each
each_bare origin kind (text ∷ texts) (part ∷ parts) each = (bare_printed_states origin kind text part each.0, each_bare origin kind texts parts each.1)

each_printed_states : (origin : Labels) (kind : BareKind) (items : List RawItem) (octets : List ℕ) → EachIsPrinted (PrintsBare kind) items octets → EachStates (StatesBare origin kind) items octets
each_printed_states origin kind items octets printed = record {
  parts = printed.parts;
  each = subst (λ items. AllZip (StatesBare origin kind) items printed.parts) (sym printed.printed) (each_bare origin kind printed.texts printed.parts printed.each);
  value = printed.value;
}

string_item_states : (items : List RawItem) (octets : List ℕ) → PrintsStringItem items octets → FirstStates StatesString items octets
string_item_states items octets printed =
    subst (λ items. FirstStates StatesString items octets) (sym printed.printed) (record { string = printed.string; spelt = printed_spells printed.string printed.is; value = printed.value })

perhaps_states : (items : List RawItem) (octets : List ℕ) → PrintsPerhaps items octets → StatesPerhaps items octets
perhaps_states [] octets printed = printed
perhaps_states (item ∷ items) octets printed = string_item_states (item ∷ items) octets printed

-- ---- whether they touch or not

pub items_apart : (items : List RawItem) → items_of (apart items) ≡ items
items_apart [] = refl
items_apart (item ∷ items) = ap (λ t. item ∷ t) (items_apart items)

apart_state : (Prints States : List RawItem → List ℕ → Type 0) → ((items : List RawItem) (octets : List ℕ) → Prints items octets → States items octets) → (items : List TouchingItem) (octets : List ℕ) → PrintsApart Prints items octets → States (items_of items) octets
apart_state Prints States goes items octets printed =
    subst (λ items. States items octets) (sym (ap items_of printed.are_apart ∙ items_apart printed.alone)) (goes printed.alone octets printed.printed)

pub field_printed_states : (origin : Labels) (kind : FieldKind) (items : List TouchingItem) (octets : List ℕ) → PrintsField kind items octets → StatesField origin kind items octets
field_printed_states origin (Bare kind) items octets printed = apart_state _ (FirstStates (StatesBare origin kind)) (one_bare_states origin kind) items octets printed
field_printed_states origin (Each kind) items octets printed = apart_state _ (EachStates (StatesBare origin kind)) (each_printed_states origin kind) items octets printed
field_printed_states origin OneString items octets printed = apart_state _ _ string_item_states items octets printed
field_printed_states origin PerhapsOneString items octets printed = apart_state _ _ perhaps_states items octets printed
field_printed_states origin Value items octets printed = apart_state _ _ bare_or_quoted_value items octets printed
field_printed_states origin QuotedValue items octets printed = apart_state _ _ value_printed_states items octets printed
field_printed_states origin Strings items octets printed = apart_state _ _ strings_printed_states items octets printed
field_printed_states origin Hex items octets printed = apart_state _ _ hex_printed_states items octets printed
field_printed_states origin Base64 items octets printed = apart_state _ _ base64_printed_states items octets printed
field_printed_states origin Types items octets printed = apart_state _ _ types_printed_states items octets printed
field_printed_states origin PerhapsTypes items octets printed = apart_state _ _ perhaps_types_printed_states items octets printed
field_printed_states origin Prefixes items octets printed = apart_state _ _ prefixes_printed_state items octets printed
field_printed_states origin Location items octets printed = apart_state _ _ location_printed_states items octets printed
field_printed_states origin Nothing items octets printed = apart_state _ _ (λ items octets is. is) items octets printed
field_printed_states origin Parameters items octets printed = parameters_printed_state items octets printed

-- ---- which items are a field's own

pub apart_count : (Prints : List RawItem → List ℕ → Type 0) (items : List TouchingItem) (octets : List ℕ) (printed : PrintsApart Prints items octets) → length items ≡ length printed.alone
apart_count Prints items octets printed = ap length printed.are_apart ∙ length-map printed.alone (λ item. placed item false)

-- of a field that is printed for a part of the octets there is one item
pub one_item : (kind : FieldKind) (items : List TouchingItem) (octets : List ℕ) → prints_all kind ≡ false → PrintsField kind items octets → length items ≡ 1
one_item (Bare kind) items octets e printed = apart_count _ items octets printed ∙ ap length printed.printed.2
one_item OneString items octets e printed = apart_count _ items octets printed ∙ ap length printed.printed.printed
one_item kind items octets e printed = absurd (false≢true (sym e))

pub perhaps_one : (items : List RawItem) (octets : List ℕ) → PrintsPerhaps items octets → length items ≤ 1
perhaps_one [] octets printed = omega arith
perhaps_one (item ∷ items) octets printed = omega (arith, ap length printed.printed)

one_count : (own rest : List TouchingItem) → length own ≡ 1 → min 1 (length (own ++ rest)) ≡ length own
one_count own rest one = omega (arith, one, length-append own rest)

few_count : (own rest : List TouchingItem) → length own ≤ 1 → rest ≡ [] → min 1 (length (own ++ rest)) ≡ length own
few_count own rest few none = omega (arith, few, length-append own rest, ap length none)

all_count : (own rest : List TouchingItem) → rest ≡ [] → length (own ++ rest) ≡ length own
all_count own rest none = omega (arith, length-append own rest, ap length none)

counted : (kind : FieldKind) (own rest : List TouchingItem) (octets : List ℕ) → PrintsField kind own octets → (prints_all kind ≡ true → rest ≡ []) → own_count kind (length (own ++ rest)) ≡ length own
counted (Bare kind) own rest octets printed last = one_count own rest (one_item (Bare kind) own octets refl printed)
counted OneString own rest octets printed last = one_count own rest (one_item OneString own octets refl printed)
counted PerhapsOneString own rest octets printed last = few_count own rest (omega (arith, apart_count _ own octets printed, perhaps_one printed.alone octets printed.printed)) (last refl)
counted Value own rest octets printed last = one_count own rest (apart_count _ own octets printed ∙ ap length printed.printed.1)
counted QuotedValue own rest octets printed last = one_count own rest (apart_count _ own octets printed ∙ ap length printed.printed.1)
counted kind own rest octets printed last = all_count own rest (last refl)

own_fit : (kind : FieldKind) (own rest : List TouchingItem) (octets : List ℕ) → PrintsField kind own octets → (prints_all kind ≡ true → rest ≡ []) → (own_items kind (own ++ rest) ≡ own) × (items_after kind (own ++ rest) ≡ rest)
own_fit kind own rest octets printed last =
    let e = counted kind own rest octets printed last in
    (ap (λ n. take n (own ++ rest)) e ∙ take-append_seam own rest, ap (λ n. drop n (own ++ rest)) e ∙ drop-append_seam own rest)

-- ---- field after field

abbrev AllStated : Labels → List NamedField → List TouchingItem → List (List ℕ) → Type 0
AllStated origin fields items parts = StateParts origin fields items parts × (left_over fields items ≡ [])

-- a field before the others
field_before : (origin : Labels) (f : NamedField) (fields : List NamedField) (items own rest : List TouchingItem) (part : List ℕ) (parts : List (List ℕ)) → items ≡ own ++ rest → PrintsField f.kind own part → (prints_all f.kind ≡ true → rest ≡ []) → AllStated origin fields rest parts → AllStated origin (f ∷ fields) items (part ∷ parts)
field_before origin f fields items own rest part parts whole printed last more =
    let fit = own_fit f.kind own rest part printed last in
    let own_is : own_items f.kind items ≡ own = ap (own_items f.kind) whole ∙ fit.0 in
    let after_is : items_after f.kind items ≡ rest = ap (items_after f.kind) whole ∙ fit.1 in (
      (subst (λ t. StatesField origin f.kind t part) (sym own_is) (field_printed_states origin f.kind own part printed), subst (λ t. StateParts origin fields t parts) (sym after_is) more.0),
      ap (left_over fields) after_is ∙ more.1,
    )

parts_state : (origin : Labels) (fields : List NamedField) → OnlyLastPrintsAll fields → (items : List TouchingItem) (parts : List (List ℕ)) → PrintParts fields items parts → AllStated origin fields items parts
parts_state origin [] last items [] printed = (tt, printed)
parts_state origin [] last items (part ∷ parts) printed = absurd printed
parts_state origin (f ∷ fields) last items [] printed = absurd printed
parts_state origin (f ∷ []) last items (part ∷ []) printed = field_before origin f [] items printed.0 printed.1 part [] printed.2 printed.3 (λ all. printed.4) (tt, printed.4)
parts_state origin (f ∷ []) last items (part ∷ next ∷ parts) printed = absurd printed.4
parts_state origin (f ∷ g ∷ fields) last items (part ∷ parts) printed =
    field_before origin f (g ∷ fields) items printed.0 printed.1 part parts printed.2 printed.3 (λ all. absurd (false≢true (sym last.0 ∙ all))) (parts_state origin (g ∷ fields) last.1 printed.1 parts printed.4)

-- ---- the data of a type

abbrev pub LastOfThese : Fields → Type 0
LastOfThese fields = (items : List TouchingItem) → OnlyLastPrintsAll (fields_in fields items)

pub last_prints_all : (fields : Fields) → AreOfAType fields → LastOfThese fields
last_prints_all (same fields) are items = only_last_prints_all are.further are.row fields are.are
last_prints_all of_ipseckey are items = (refl, (refl, (refl, (refl, tt))))
last_prints_all of_amtrelay are items = (refl, (refl, (refl, tt)))
last_prints_all of_hip are items = (refl, (refl, (refl, tt)))

pub printed_data_states : (fields : Fields) → AreOfAType fields → (items : List TouchingItem) (octets : List ℕ) → PrintsData fields items octets → (origin : Labels) → StatesData origin (fields_in fields items) (in_order fields) items octets
printed_data_states fields are items octets printed origin =
    let state = parts_state origin (fields_in fields items) (last_prints_all fields are items) items printed.parts printed.each in
    record { parts = printed.parts; each = state.0; whole = state.1; value = printed.value; short = printed.short }
