-- Each field states one list of octets at most, or has one fault and states none.
use Rattle.type_data.proofs.Common.{BadEscape, ComesToBadEscape, FailsBare, FailsField, FirstFault-once, IsHex, IsInOctets, Labels, List, NotAName, NothingStated, NumberFails, RawItem, Some, StatesBare, StatesField, StatesLocation, StatesTypes, TouchingItem, Unescaped, Width, WordsFault, [], ap, arith, groups_unique, item_text, numbers_unique, refl, sym, text_meaning, w16, w32, w8, ℕ, ◌∙◌, ◌∷◌, ◌≡◌}
use Rattle.type_data.specs.Kinds.Number.{no_number}
use Rattle.zone_rdata.proofs.Fields.Strings.{each_never, fault_once as leftmost_once}
use Rattle.zone_rdata.proofs.Strings.StringLaws.{fault-once, string-never_both}
use Rattle.zone_rdata.specs.Spelling.{bare, quoted}
use Rattle.type_data.proofs.OfKinds.Hash.Digits.{one_base32}
use Rattle.type_data.proofs.OfKinds.Base64.Texts.{no_base64, one_base64}
use Rattle.type_data.proofs.OfKinds.Gateway.Fields.{up_to_fault_once, up_to_once, up_to_or_fault}
use Rattle.type_data.proofs.OfKinds.Hexadecimal.Digits.{no_digits, one_hex}
use Rattle.type_data.proofs.OfKinds.Eui.Pairs.{eui_once}
use Rattle.type_data.proofs.EachItems.{each_fault_once, each_once, each_or_fault}
use Rattle.type_data.proofs.OfKinds.HostIdentity.Lengths.{key_fault_once, key_once, key_or_fault}
use Rattle.type_data.proofs.OfKinds.Joined.Items.{joined_once}
use Rattle.type_data.proofs.OfKinds.AfterLength.Lengths.{after_length_fault_once, after_length_once, after_length_or_fault}
use Rattle.type_data.proofs.OfKinds.Location.Once.{location_once, no_items}
use Rattle.type_data.proofs.OfKinds.NodeId.Once.{node_id_once}
use Rattle.type_data.proofs.OfKinds.Number.Read.{decimal_once, in_octets_once, number_or_fault}
use Rattle.type_data.proofs.OfKinds.Name.Once.{name_once, name_or_fault}
use Rattle.type_data.proofs.OfParameters.Once.{parameters_once, parameters_or_fault}
use Rattle.type_data.proofs.OfParameters.OneFault.{parameters_fault_once}
use Rattle.type_data.proofs.OfKinds.Prefixes.Once.{prefixes_once}
use Rattle.type_data.proofs.OfKinds.Salt.Once.{one_salt}
use Rattle.type_data.proofs.OfKinds.Strings.Items.{string_once, strings_once}
use Rattle.type_data.proofs.OfKinds.Time.Once.{time_fault_once, time_once, time_or_fault}
use Rattle.type_data.proofs.OfKinds.Types.Items.{perhaps_types_once, types_once}
use Rattle.type_data.proofs.OfKinds.Word.Once.{algorithm_once, certificate_type_once, notify_scheme_once, type_word_once}
use Rattle.type_data.proofs.UnescapedTexts.{unescaped_once, unescaped_or_bad}
use Rattle.type_data.specs.DataItem.{items_of}
use Rattle.type_data.specs.EachItem.{EachStates, OneFails}
use Rattle.type_data.specs.FirstItem.{FirstFails, FirstStates}
use Rattle.type_data.specs.Kinds.AfterLength.{FailsAfterLength, StatesAfterLength}
use Rattle.type_data.specs.Kinds.Base64.{IsBase64}
use Rattle.type_data.specs.Kinds.Gateway.{FailsUpTo, StatesUpTo}
use Rattle.type_data.specs.Kinds.Hash.{IsBase32Hex}
use Rattle.type_data.specs.Kinds.Joined.{FailsAs, StatesJoined}
use Rattle.type_data.specs.Kinds.Name.{FailsName, StatesName}
use Rattle.type_data.specs.Kinds.Number.{too_large}
use Rattle.type_data.specs.Kinds.Salt.{IsSalt}
use Rattle.type_data.specs.Kinds.Strings.{FailsPerhaps, FailsString, FailsStrings, StatesPerhaps, StatesString, StatesStrings, of_string}
use Rattle.type_data.specs.Kinds.Value.{FailsQuotedValue, StatesQuotedValue}
use Rattle.type_data.specs.declared.field.BareKind.{BareKind}
use Rattle.type_data.specs.declared.field.BareKind.TheVariants.{AddressType, Algorithm, CertificateType, Discovery, Eui48, Eui64, Hash, HostIdentityTag, Ipv4, Ipv6, Name, NoAddress, NodeId, NotifyScheme, PublicKey, RecordType, Salt, Tag, Time, U8, U16, U32}
use Rattle.type_data.specs.declared.field.FieldKind.{FieldKind}
use Rattle.type_data.specs.declared.field.FieldKind.TheVariants.{Bare, Base64, Each, Hex, Location, Nothing, OneString, Parameters, PerhapsOneString, PerhapsTypes, Prefixes, QuotedValue, Strings, Types, Value}

-- ---- what is proved of every kind

-- one list of octets at most is stated, or there is one fault and none is stated
pub record IsOne (States : List ℕ → Type 0) (Fails : WordsFault → Type 0) : Type 0 where
  pub once : (a b : List ℕ) → States a → States b → a ≡ b
  pub or_fault : (octets : List ℕ) (fault : WordsFault) → States octets → Fails fault → ⊥
  pub fault_once : (a b : WordsFault) → Fails a → Fails b → a ≡ b

-- the fault is the kind's own
by_own : (own : WordsFault) (States : List ℕ → Type 0) → ((a b : List ℕ) → States a → States b → a ≡ b) → IsOne States (NothingStated own States)
by_own own States once = record { once = once; or_fault = λ octets fault p q. q.1 octets p; fault_once = λ a b p q. p.0 ∙ sym q.0 }

-- nothing can be stated
only : (own : WordsFault) (States : List ℕ → Type 0) → ((octets : List ℕ) → States octets → ⊥) → IsOne States (λ fault. fault ≡ own)
only own States none = record { once = λ a b p q. absurd (none a p); or_fault = λ octets fault p q. none octets p; fault_once = λ a b p q. p ∙ sym q }

-- ---- a text

number_fault_once : (Stated : ℕ → Type 0) (w : Width) (a b : WordsFault) → NumberFails Stated w a → NumberFails Stated w b → a ≡ b
number_fault_once Stated w _ _ (no_number none) (no_number none_too) = refl
number_fault_once Stated w _ _ (no_number none) (too_large n is over) = absurd (none n is)
number_fault_once Stated w _ _ (too_large n is over) (no_number none) = absurd (none n is)
number_fault_once Stated w _ _ (too_large n is over) (too_large m is_too over_too) = refl

by_number : (Stated : ℕ → Type 0) (w : Width) → ((m n : ℕ) → Stated m → Stated n → m ≡ n) → IsOne (IsInOctets Stated w) (NumberFails Stated w)
by_number Stated w one = record { once = λ a b. in_octets_once Stated w a b one; or_fault = λ octets fault. number_or_fault Stated w octets fault one; fault_once = number_fault_once Stated w }

by_up_to : (most : ℕ) (octets_of : ℕ → List ℕ) (text : List ℕ) → IsOne (StatesUpTo most octets_of text) (FailsUpTo most text)
by_up_to most octets_of text = record { once = up_to_once most octets_of text; or_fault = up_to_or_fault most octets_of text; fault_once = up_to_fault_once most text }

by_length : (own : WordsFault) (StandsFor : List ℕ → List ℕ → Type 0) → ((text a b : List ℕ) → StandsFor text a → StandsFor text b → a ≡ b) → (text : List ℕ) → IsOne (StatesAfterLength StandsFor text) (FailsAfterLength own StandsFor text)
by_length own StandsFor once text = record { once = after_length_once StandsFor once text; or_fault = after_length_or_fault own StandsFor once text; fault_once = after_length_fault_once own StandsFor text }

name_is_one : (origin : Labels) (text : List ℕ) → IsOne (StatesName origin text) (FailsName origin text)
name_is_one origin text = record {
  once = name_once origin text;
  or_fault = name_or_fault origin text;
  fault_once = λ a b p q. p.2 ∙ ap (λ f. NotAName (Some f)) (FirstFault-once (Some origin) text p.0 q.0 p.1 q.1) ∙ sym q.2;
}

text_is_one : (origin : Labels) (kind : BareKind) (text : List ℕ) → IsOne ((text_meaning origin kind).States text) ((text_meaning origin kind).Fails text)
text_is_one origin U8 text = by_number _ w8 (decimal_once text)
text_is_one origin U16 text = by_number _ w16 (decimal_once text)
text_is_one origin U32 text = by_number _ w32 (decimal_once text)
text_is_one origin Algorithm text = by_number _ w8 (algorithm_once text)
text_is_one origin CertificateType text = by_number _ w16 (certificate_type_once text)
text_is_one origin NotifyScheme text = by_number _ w8 (notify_scheme_once text)
text_is_one origin RecordType text = record { once = λ a b. in_octets_once _ w16 a b (type_word_once text); or_fault = λ octets fault p q. q.1 p.number p.stated; fault_once = λ a b p q. p.0 ∙ sym q.0 }
text_is_one origin Time text = record { once = time_once text; or_fault = time_or_fault text; fault_once = time_fault_once text }
text_is_one origin Name text = name_is_one origin text
text_is_one origin Salt text = by_length _ IsSalt one_salt text
text_is_one origin Hash text = by_length _ IsBase32Hex one_base32 text
text_is_one origin Tag text = by_own _ _ (λ a b p q. p.1 ∙ sym q.1)
text_is_one origin Ipv4 text = by_own _ _ (numbers_unique 3 text)
text_is_one origin Ipv6 text = by_own _ _ (groups_unique text)
text_is_one origin (AddressType optional) text = by_up_to 3 _ text
text_is_one origin Discovery text = by_up_to 1 _ text
text_is_one origin NoAddress text = record { once = λ a b p q. p.1 ∙ sym q.1; or_fault = λ octets fault p q. q.0 p.0; fault_once = λ a b p q. p.1 ∙ sym q.1 }
text_is_one origin NodeId text = by_own _ _ (node_id_once text)
text_is_one origin Eui48 text = by_own _ _ (λ a b. eui_once 6 text a b (omega arith))
text_is_one origin Eui64 text = by_own _ _ (λ a b. eui_once 8 text a b (omega arith))
text_is_one origin HostIdentityTag text = by_length _ IsHex one_hex text
text_is_one origin PublicKey text = record { once = key_once text; or_fault = key_or_fault text; fault_once = key_fault_once text }

-- ---- an item

bare_is_one : (origin : Labels) (kind : BareKind) (item : RawItem) → IsOne (StatesBare origin kind item) (FailsBare origin kind item)
bare_is_one origin kind (bare text) = text_is_one origin kind text
bare_is_one origin kind (quoted text) = only _ _ (λ octets p. p)

string_is_one : (item : RawItem) → IsOne (StatesString item) (FailsString item)
string_is_one item = record {
  once = string_once item;
  or_fault = λ octets fault p q. string-never_both item p.string q.own p.spelt q.first;
  fault_once = λ a b p q. p.is ∙ ap of_string (fault-once item p.own q.own p.first q.first) ∙ sym q.is;
}

value_is_one : (text : List ℕ) → IsOne (Unescaped text) (λ fault. (fault ≡ BadEscape) × ComesToBadEscape text)
value_is_one text = record { once = unescaped_once text; or_fault = λ octets fault p q. unescaped_or_bad text octets p q.1; fault_once = λ a b p q. p.0 ∙ sym q.0 }

quoted_value_is_one : (item : RawItem) → IsOne (StatesQuotedValue item) (FailsQuotedValue item)
quoted_value_is_one (bare text) = only _ _ (λ octets p. p)
quoted_value_is_one (quoted text) = value_is_one text

-- ---- items

first_is_one : (States : RawItem → List ℕ → Type 0) (Fails : RawItem → WordsFault → Type 0) → ((item : RawItem) → IsOne (States item) (Fails item)) → (items : List RawItem) → IsOne (FirstStates States items) (FirstFails Fails items)
first_is_one States Fails one [] = only _ _ (λ octets p. p)
first_is_one States Fails one (item ∷ items) = one item

each_is_one : (States : RawItem → List ℕ → Type 0) (Fails : RawItem → WordsFault → Type 0) → ((item : RawItem) → IsOne (States item) (Fails item)) → (items : List RawItem) → IsOne (EachStates States items) (OneFails States Fails items)
each_is_one States Fails one items =
    let once : (item : RawItem) (a b : List ℕ) → States item a → States item b → a ≡ b = λ item. (one item).once in
    let or_fault : (item : RawItem) (octets : List ℕ) (fault : WordsFault) → States item octets → Fails item fault → ⊥ = λ item. (one item).or_fault in
    let fault_once : (item : RawItem) (a b : WordsFault) → Fails item a → Fails item b → a ≡ b = λ item. (one item).fault_once in
    record { once = each_once States once items; or_fault = each_or_fault States Fails or_fault items; fault_once = each_fault_once States Fails or_fault fault_once items }

perhaps_is_one : (items : List RawItem) → IsOne (StatesPerhaps items) (FailsPerhaps items)
perhaps_is_one [] = record { once = λ a b p q. p ∙ sym q; or_fault = λ octets fault p q. q; fault_once = λ a b p q. absurd p }
perhaps_is_one (item ∷ items) = string_is_one item

strings_are_one : (items : List RawItem) → IsOne (StatesStrings items) (FailsStrings items)
strings_are_one [] = only _ _ (λ octets p. let some = p.spelt.some in omega arith)
strings_are_one (item ∷ items) = record {
  once = strings_once (item ∷ items);
  or_fault = λ octets fault p q. each_never (item ∷ items) p.strings q.own p.spelt.each q.first;
  fault_once = λ a b p q. p.is ∙ ap of_string (leftmost_once (item ∷ items) p.own q.own p.first q.first) ∙ sym q.is;
}

-- the fault is the kind's own, but where no item is left
by_items : (own : WordsFault) (States : List RawItem → List ℕ → Type 0) → ((octets : List ℕ) → States [] octets → ⊥) → ((items : List RawItem) (a b : List ℕ) → States items a → States items b → a ≡ b) → (items : List RawItem) → IsOne (States items) (FailsAs own States items)
by_items own States none once [] = only _ _ none
by_items own States none once (item ∷ items) = by_own own _ (once (item ∷ items))

-- items that are joined have a text of octets, one or more
joined_are_one : (own : WordsFault) (StandsFor : List ℕ → List ℕ → Type 0) → ((octets : List ℕ) → StandsFor [] octets → ⊥) → ((text a b : List ℕ) → StandsFor text a → StandsFor text b → a ≡ b) → (items : List RawItem) → IsOne (StatesJoined StandsFor items) (FailsAs own (StatesJoined StandsFor) items)
joined_are_one own StandsFor none once = by_items own (StatesJoined StandsFor) (λ octets p. none octets (rw p.joined.joins at p.stands)) (joined_once StandsFor once)

field_is_one : (origin : Labels) (kind : FieldKind) (items : List TouchingItem) → IsOne (StatesField origin kind items) (FailsField origin kind items)
field_is_one origin (Bare kind) items = first_is_one _ _ (bare_is_one origin kind) (items_of items)
field_is_one origin (Each kind) items = each_is_one _ _ (bare_is_one origin kind) (items_of items)
field_is_one origin OneString items = first_is_one _ _ string_is_one (items_of items)
field_is_one origin PerhapsOneString items = perhaps_is_one (items_of items)
field_is_one origin Value items = first_is_one _ _ (λ item. value_is_one (item_text item)) (items_of items)
field_is_one origin QuotedValue items = first_is_one _ _ quoted_value_is_one (items_of items)
field_is_one origin Strings items = strings_are_one (items_of items)
field_is_one origin Hex items = joined_are_one _ IsHex (λ octets. no_digits [] octets refl) one_hex (items_of items)
field_is_one origin Base64 items = joined_are_one _ IsBase64 (λ octets. no_base64 [] octets refl) one_base64 (items_of items)
field_is_one origin Types items = by_items _ StatesTypes (λ octets p. omega (arith, p.some)) types_once (items_of items)
field_is_one origin PerhapsTypes items = by_own _ _ (perhaps_types_once (items_of items))
field_is_one origin Prefixes items = by_own _ _ (prefixes_once (items_of items))
field_is_one origin Location items = by_items _ StatesLocation (λ octets p. no_items p.0 p.1.0) location_once (items_of items)
field_is_one origin Nothing items = record { once = λ a b p q. p.1 ∙ sym q.1; or_fault = λ octets fault p q. q.0 p.0; fault_once = λ a b p q. p.1 ∙ sym q.1 }
field_is_one origin Parameters items = record { once = parameters_once items; or_fault = parameters_or_fault items; fault_once = parameters_fault_once items }

-- ---- what is cited of a field

pub field_once : (origin : Labels) (kind : FieldKind) (items : List TouchingItem) (a b : List ℕ) → StatesField origin kind items a → StatesField origin kind items b → a ≡ b
field_once origin kind items = (field_is_one origin kind items).once

pub field_or_fault : (origin : Labels) (kind : FieldKind) (items : List TouchingItem) (octets : List ℕ) (fault : WordsFault) → StatesField origin kind items octets → FailsField origin kind items fault → ⊥
field_or_fault origin kind items = (field_is_one origin kind items).or_fault

pub field_fault_once : (origin : Labels) (kind : FieldKind) (items : List TouchingItem) (a b : WordsFault) → FailsField origin kind items a → FailsField origin kind items b → a ≡ b
field_fault_once origin kind items = (field_is_one origin kind items).fault_once
