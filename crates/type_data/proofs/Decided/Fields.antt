-- Items state data or have a fault, field after field.
use Rattle.std.specs.Int.{w16, w32, w8}
use Rattle.zone_name.specs.Common.{EitherIs}
use Rattle.zone_name.specs.Name.{IsCasedName}
use Rattle.zone_rdata.proofs.Addresses.AddressChoice.{ipv4_or_not, ipv6_or_not}
use Rattle.zone_rdata.proofs.Items.GenericLaws.{decimal_or_not}
use Rattle.zone_rdata.specs.Item.{bare, quoted}
use Rattle.zone_rdata.specs.Limits.{longest_data}
use Rattle.type_data.proofs.Common.{AFieldFails, AllByRecursion-back, AllByRecursion-front, AreOctets, DataFails, FailsBare, FailsField, IsHex, Labels, List, NamedField, RawItem, StateParts, StatesBare, StatesData, StatesField, TouchingItem, WordsFault, [], arith, at_field, cases_lt, drop, drop-map, flat_map, inl, inr, item_text, items_after, items_left, last_name, length, own_count, own_items, refl, subst, sym, take, take-append-drop, take-map, text_meaning, too_long, ℕ, ◌++◌, ◌<◌, ◌∙◌, ◌∷◌, ◌≡◌, ◌≤◌, ◌⊎◌}
use Rattle.type_data.proofs.OfKinds.Base64.Decided.{base64_or_not, key_decided}
use Rattle.type_data.proofs.OfKinds.Bitmap.Decided.{perhaps_types_decided, types_decided}
use Rattle.type_data.proofs.Decided.Choices.{by_own}
use Rattle.type_data.proofs.Decided.Items.{AreLow, as_own, each_decided, first_decided}
use Rattle.type_data.proofs.OfKinds.Joined.Decided.{joined_low, joined_or_not}
use Rattle.type_data.proofs.OfKinds.Gateway.Decided.{nothing_decided}
use Rattle.type_data.proofs.OfKinds.Strings.Decided.{perhaps_decided, string_decided, strings_decided}
use Rattle.type_data.proofs.OfKinds.Value.Decided.{quoted_value_decided, value_decided}
use Rattle.type_data.proofs.OfKinds.Word.Decided.{algorithm_or_not, certificate_type_or_not, notify_scheme_or_not, type_decided}
use Rattle.type_data.proofs.OfKinds.Number.Decided.{in_octets_decided}
use Rattle.type_data.proofs.OfKinds.Gateway.Decided.{up_to_decided}
use Rattle.type_data.proofs.OfKinds.Eui.Decided.{eui_or_not}
use Rattle.type_data.proofs.OfKinds.NodeId.Decided.{node_id_or_not}
use Rattle.type_data.proofs.OfParameters.Decided.{parameters_decided}
use Rattle.type_data.proofs.OfKinds.Prefixes.Decided.{prefixes_decided}
use Rattle.type_data.proofs.OfKinds.AfterLength.Decided.{after_length_decided}
use Rattle.type_data.proofs.OfKinds.Hash.Decided.{base32_or_not}
use Rattle.type_data.proofs.OfKinds.Hexadecimal.Decided.{hex_or_not}
use Rattle.type_data.proofs.OfKinds.Name.Decided.{name_decided}
use Rattle.type_data.proofs.OfKinds.Gateway.Decided.{no_address_decided}
use Rattle.type_data.proofs.OfKinds.Salt.Decided.{salt_or_not}
use Rattle.type_data.proofs.OfKinds.Tag.Decided.{tag_decided}
use Rattle.type_data.proofs.OfKinds.Time.Decided.{time_decided}
use Rattle.type_data.proofs.OfKinds.Location.Once.{location_states_or_fails}
use Rattle.type_data.specs.Data.{left_over}
use Rattle.type_data.specs.DataItem.{items_of}
use Rattle.type_data.specs.Field.{quoted_fault}
use Rattle.type_data.specs.Kinds.Base64.{IsBase64, StatesBase64}
use Rattle.type_data.specs.Kinds.Hexadecimal.{StatesHex}
use Rattle.type_data.specs.Kinds.Strings.{FailsString, StatesString}
use Rattle.type_data.specs.Kinds.Value.{FailsQuotedValue, FailsValue, StatesQuotedValue, StatesValue}
use Rattle.type_data.specs.declared.fault.WordsFault.TheVariants.{ItemsLeftOver, TooLong}
use Rattle.type_data.specs.declared.field.BareKind.{BareKind}
use Rattle.type_data.specs.declared.field.BareKind.TheVariants.{AddressType, Algorithm, CertificateType, Discovery, Eui48, Eui64, Hash, HostIdentityTag, Ipv4, Ipv6, Name, NoAddress, NodeId, NotifyScheme, PublicKey, RecordType, Salt, Tag, Time, U8, U16, U32}
use Rattle.type_data.specs.declared.field.FieldKind.{FieldKind}
use Rattle.type_data.specs.declared.field.FieldKind.TheVariants.{Bare, Base64, Each, Hex, Location, Nothing, OneString, Parameters, PerhapsOneString, PerhapsTypes, Prefixes, QuotedValue, Strings, Types, Value}

-- ---- a text and an item

text_decided : (origin : Labels) → IsCasedName origin → (kind : BareKind) (text : List ℕ) → AreOctets text → EitherIs ((text_meaning origin kind).States text) ((text_meaning origin kind).Fails text)
text_decided origin is U8 text low = in_octets_decided _ w8 (decimal_or_not text)
text_decided origin is U16 text low = in_octets_decided _ w16 (decimal_or_not text)
text_decided origin is U32 text low = in_octets_decided _ w32 (decimal_or_not text)
text_decided origin is Algorithm text low = in_octets_decided _ w8 (algorithm_or_not text)
text_decided origin is CertificateType text low = in_octets_decided _ w16 (certificate_type_or_not text)
text_decided origin is NotifyScheme text low = in_octets_decided _ w8 (notify_scheme_or_not text)
text_decided origin is RecordType text low = type_decided text
text_decided origin is Time text low = time_decided text
text_decided origin is Name text low = name_decided origin is text low
text_decided origin is Salt text low = after_length_decided _ _ text (salt_or_not text)
text_decided origin is Hash text low = after_length_decided _ _ text (base32_or_not text)
text_decided origin is Tag text low = tag_decided text
text_decided origin is Ipv4 text low = by_own _ _ (ipv4_or_not text)
text_decided origin is Ipv6 text low = by_own _ _ (ipv6_or_not text)
text_decided origin is (AddressType optional) text low = up_to_decided 3 _ text
text_decided origin is Discovery text low = up_to_decided 1 _ text
text_decided origin is NoAddress text low = no_address_decided text
text_decided origin is NodeId text low = by_own _ _ (node_id_or_not text)
text_decided origin is Eui48 text low = by_own _ _ (eui_or_not 6 text (omega arith))
text_decided origin is Eui64 text low = by_own _ _ (eui_or_not 8 text (omega arith))
text_decided origin is HostIdentityTag text low = after_length_decided _ _ text (hex_or_not text)
text_decided origin is PublicKey text low = key_decided text low

bare_decided : (origin : Labels) → IsCasedName origin → (kind : BareKind) (item : RawItem) → AreOctets (item_text item) → EitherIs (StatesBare origin kind item) (FailsBare origin kind item)
bare_decided origin is kind (bare text) low = text_decided origin is kind text low
bare_decided origin is kind (quoted text) low = inr (quoted_fault kind, refl)

-- ---- the items of a field

abbrev AreLowItems : List TouchingItem → Type 0
AreLowItems items = AreLow (items_of items)

pub field_decided : (origin : Labels) → IsCasedName origin → (kind : FieldKind) (items : List TouchingItem) → AreLowItems items → EitherIs (StatesField origin kind items) (FailsField origin kind items)
field_decided origin is (Bare kind) items low = first_decided (StatesBare origin kind) (FailsBare origin kind) (bare_decided origin is kind) (items_of items) low
field_decided origin is (Each kind) items low = each_decided (StatesBare origin kind) (FailsBare origin kind) (bare_decided origin is kind) (items_of items) low
field_decided origin is OneString items low = first_decided StatesString FailsString string_decided (items_of items) low
field_decided origin is PerhapsOneString items low = perhaps_decided (items_of items) low
field_decided origin is Value items low = first_decided StatesValue FailsValue (λ item octets. value_decided item) (items_of items) low
field_decided origin is QuotedValue items low = first_decided StatesQuotedValue FailsQuotedValue (λ item octets. quoted_value_decided item) (items_of items) low
field_decided origin is Strings items low = strings_decided (items_of items) low
field_decided origin is Hex items low = as_own _ StatesHex (items_of items) (joined_or_not IsHex (items_of items) (hex_or_not (flat_map item_text (items_of items))))
field_decided origin is Base64 items low = as_own _ StatesBase64 (items_of items) (joined_or_not IsBase64 (items_of items) (base64_or_not (flat_map item_text (items_of items)) (joined_low (items_of items) low)))
field_decided origin is Types items low = types_decided (items_of items)
field_decided origin is PerhapsTypes items low = perhaps_types_decided (items_of items)
field_decided origin is Prefixes items low = prefixes_decided (items_of items)
field_decided origin is Location items low = location_states_or_fails (items_of items)
field_decided origin is Nothing items low = nothing_decided (items_of items)
field_decided origin is Parameters items low = parameters_decided items low

-- ---- fields

parted_low : (n : ℕ) (items : List TouchingItem) → AreLowItems items → AreLow (take n (items_of items) ++ drop n (items_of items))
parted_low n items low = subst AreLow (sym (take-append-drop n (items_of items))) low

own_low : (kind : FieldKind) (items : List TouchingItem) → AreLowItems items → AreLowItems (own_items kind items)
own_low kind items low =
    let n : ℕ = own_count kind (length items) in
    subst AreLow (take-map (λ (d : TouchingItem). d.item) n items) (AllByRecursion-front (λ item. AreOctets (item_text item)) (take n (items_of items)) (drop n (items_of items)) (parted_low n items low))

after_low : (kind : FieldKind) (items : List TouchingItem) → AreLowItems items → AreLowItems (items_after kind items)
after_low kind items low =
    let n : ℕ = own_count kind (length items) in
    subst AreLow (drop-map (λ (d : TouchingItem). d.item) n items) (AllByRecursion-back (λ item. AreOctets (item_text item)) (take n (items_of items)) (drop n (items_of items)) (parted_low n items low))

-- each field states its part, or one fails
abbrev PartsOrFault : Labels → List NamedField → List TouchingItem → Type 0
PartsOrFault origin fields items =
    ((parts : List (List ℕ)) × StateParts origin fields items parts)
    ⊎ ((name : List ℕ) × (fault : WordsFault) × AFieldFails origin fields items name fault)

parts_by : (origin : Labels) (f : NamedField) (fields : List NamedField) (items : List TouchingItem) → EitherIs (StatesField origin f.kind (own_items f.kind items)) (FailsField origin f.kind (own_items f.kind items)) → PartsOrFault origin fields (items_after f.kind items) → PartsOrFault origin (f ∷ fields) items
parts_by origin f fields items (inr bad) more = inr (f.name, bad.0, inl (bad.1, refl))
parts_by origin f fields items (inl found) (inr bad) = inr (bad.0, bad.1, inr (found.0, found.1, bad.2))
parts_by origin f fields items (inl found) (inl more) = inl (found.0 ∷ more.0, (found.1, more.1))

parts_decided : (origin : Labels) → IsCasedName origin → (fields : List NamedField) (items : List TouchingItem) → AreLowItems items → PartsOrFault origin fields items
parts_decided origin is [] items low = inl ([], tt)
parts_decided origin is (f ∷ fields) items low = parts_by origin f fields items (field_decided origin is f.kind (own_items f.kind items) (own_low f.kind items low)) (parts_decided origin is fields (items_after f.kind items) (after_low f.kind items low))

-- data, or the first thing that is wrong
abbrev pub DataOrFault : Labels → List NamedField → (List (List ℕ) → List ℕ) → List TouchingItem → Type 0
DataOrFault origin fields ordered items =
    ((octets : List ℕ) × StatesData origin fields ordered items octets)
    ⊎ ((name : List ℕ) × (fault : WordsFault) × DataFails origin fields ordered items name fault)

sized_data : (origin : Labels) (fields : List NamedField) (ordered : List (List ℕ) → List ℕ) (items : List TouchingItem) (parts : List (List ℕ)) → StateParts origin fields items parts → left_over fields items ≡ [] → (longest_data < length (ordered parts)) ⊎ (length (ordered parts) ≤ longest_data) → DataOrFault origin fields ordered items
sized_data origin fields ordered items parts each whole (inl long) = inr (last_name fields, TooLong, too_long parts each whole long refl)
sized_data origin fields ordered items parts each whole (inr short) = inl (ordered parts, record { parts = parts; each = each; whole = whole; value = refl; short = short })

data_by : (origin : Labels) (fields : List NamedField) (ordered : List (List ℕ) → List ℕ) (items left : List TouchingItem) (parts : List (List ℕ)) → StateParts origin fields items parts → left_over fields items ≡ left → DataOrFault origin fields ordered items
data_by origin fields ordered items [] parts each whole = sized_data origin fields ordered items parts each whole (cases_lt longest_data (length (ordered parts)))
data_by origin fields ordered items (d ∷ left) parts each whole = inr (last_name fields, ItemsLeftOver, items_left parts each (λ none. absurd (let bad = sym whole ∙ none in cc bad)) refl)

pub data_decided : (origin : Labels) (fields : List NamedField) (ordered : List (List ℕ) → List ℕ) (items : List TouchingItem) → IsCasedName origin → AreLowItems items → DataOrFault origin fields ordered items
data_decided origin fields ordered items is low = elim (parts_decided origin is fields items low) [
  | inl found ↦ data_by origin fields ordered items (left_over fields items) found.0 found.1 refl
  | inr bad ↦ inr (bad.0, bad.1, at_field bad.1 bad.2)
]
