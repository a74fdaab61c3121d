-- The values of parameters are stated or have a fault, by their keys.
use Rattle.std.proofs.Common.{decimal}
use Rattle.zone_name.specs.Common.{EitherIs}
use Rattle.zone_rdata.proofs.Addresses.AddressChoice.{ipv4_or_not, ipv6_or_not}
use Rattle.zone_rdata.proofs.Choices.{Choice, Decided, both_or_not, each_or_not}
use Rattle.zone_rdata.proofs.Fields.Number.{spelled_or_not}
use Rattle.zone_rdata.proofs.Items.GenericLaws.{decimal_or_not}
use Rattle.zone_rdata.proofs.Words.OneWord.{same_or_not}
use Rattle.type_data.proofs.Common.{AllByRecursion, AllZip, Alpn, AreOctets, AscendAbove, BadEscape, ComesToBadEscape, DohPath, Ech, FailsValue, HasEscapes, HasName, Ipv4Hint, Ipv6Hint, IsDecimal, IsKeyNumber, IsKeyText, IsPermutation, IsProtocol, Key, List, ListsAddresses, ListsKeys, ListsProtocols, Mandatory, NoDefaultAlpn, None, NothingIs, Numbered, Ohttp, Option, Port, RequiresKeys, Some, SpellsKey, StatesPath, StatesValue, Unescaped, WordsFault, [], ap, arith, bad_escape, cases_lt, codes, drop, false, flat_map, inl, inr, key_text, length, listed, refl, subst, suc, sym, take, take-append-drop, to_be_bytes, w16, with_length, ℕ, ◌++◌, ◌<◌, ◌∙◌, ◌∷◌, ◌≡◌, ◌≢◌, ◌≤◌, ◌⊎◌}
use Rattle.type_data.proofs.OfKinds.Base64.Decided.{base64_or_not}
use Rattle.type_data.proofs.Decided.Choices.{at_most_or_not}
use Rattle.type_data.proofs.OfKinds.Value.Decided.{unescaped_decided}
use Rattle.type_data.proofs.OfKinds.Bitmap.Sorted.{in_order}
use Rattle.type_data.proofs.OfParameters.Ascending.{RiseFrom, rise_once, rise_weaker}
use Rattle.type_data.proofs.OfParameters.Keys.{key_number_is}
use Rattle.type_data.proofs.OfParameters.KeyLists.{stated_once}
use Rattle.type_data.proofs.OfParameters.Listed.{protocols_appended, protocols_stop}
use Rattle.type_data.proofs.UnescapedTexts.{unescaped_or_bad}
use Rattle.type_data.specs.Parameters.Machine.Parts.{ReadsItems, items_of}
use Rattle.type_data.specs.Parameters.Keys.{number_of}
use Rattle.type_data.specs.Parameters.Value.{StatesKeys, StatesNone, StatesPort, no_value}
use Rattle.type_data.specs.declared.fault.WordsFault.TheVariants.{NotAValue}

-- ---- keys

digits_by : (digits : List ℕ) (n : ℕ) → IsDecimal digits n → Decided (digits ≡ decimal n) → (n < 65535) ⊎ (65535 ≤ n) → Choice (IsKeyNumber digits)
digits_by digits n is (inl same) (inl valid) = inl (n, (same, valid))
digits_by digits n is (inr other) size = inr (λ m own. let e : m ≡ n = (key_number_is digits m own).value ∙ sym is.value in other (own.0 ∙ ap decimal e))
digits_by digits n is same (inr over) = inr (λ m own. let e : m ≡ n = (key_number_is digits m own).value ∙ sym is.value in omega (arith, own.1))

number_or_not : (digits : List ℕ) → Choice (IsKeyNumber digits)
number_or_not digits = elim (decimal_or_not digits) [
  | inr none ↦ inr (λ n own. none n (key_number_is digits n own))
  | inl found ↦ digits_by digits found.0 found.1 (same_or_not digits (decimal found.0)) (cases_lt found.0 65535)
]

abbrev IsNumberedKey : List ℕ → ℕ → Type 0
IsNumberedKey text n = (text ≡ codes "key" ++ decimal n) × (n < 65535)

numbered_by : (text : List ℕ) → Decided (take 3 text ≡ codes "key") → Choice (IsKeyNumber (drop 3 text)) → Choice (IsNumberedKey text)
numbered_by text (inr other) digits = inr (λ n is. other (ap (take 3) is.0))
numbered_by text (inl same) (inr none) = inr (λ n is. none n (ap (drop 3) is.0, is.1))
numbered_by text (inl same) (inl found) = inl (found.0, (sym (take-append-drop 3 text) ∙ ap (λ t. t ++ drop 3 text) same ∙ ap (λ t. codes "key" ++ t) found.1.0, found.1.1))

-- the text is the name of no key
abbrev NoName : List ℕ → Type 0
NoName text = (key : Key) → HasName key → text ≡ key_text key → ⊥

no_name : (text : List ℕ) → text ≢ key_text Mandatory → text ≢ key_text Alpn → text ≢ key_text NoDefaultAlpn → text ≢ key_text Port → text ≢ key_text Ipv4Hint → text ≢ key_text Ech → text ≢ key_text Ipv6Hint → text ≢ key_text DohPath → text ≢ key_text Ohttp → NoName text
no_name text a b c d f g h k l Mandatory has e = a e
no_name text a b c d f g h k l Alpn has e = b e
no_name text a b c d f g h k l NoDefaultAlpn has e = c e
no_name text a b c d f g h k l Port has e = d e
no_name text a b c d f g h k l Ipv4Hint has e = f e
no_name text a b c d f g h k l Ech has e = g e
no_name text a b c d f g h k l Ipv6Hint has e = h e
no_name text a b c d f g h k l DohPath has e = k e
no_name text a b c d f g h k l Ohttp has e = l e
no_name text a b c d f g h k l (Numbered n) has e = has

-- the text is the name of a key, or else this holds
abbrev NamedOr : List ℕ → Type 0 → Type 0
NamedOr text P = ((key : Key) × (HasName key × (text ≡ key_text key))) ⊎ P

-- it is the name of this key, or what holds if it isn't
or_named : (text : List ℕ) (key : Key) (P : Type 0) → HasName key → (text ≢ key_text key → NamedOr text P) → NamedOr text P
or_named text key P has more = elim (same_or_not text (key_text key)) [
  | inl same ↦ inl (key, (has, same))
  | inr other ↦ more other
]

named_or_not : (text : List ℕ) → NamedOr text (NoName text)
named_or_not text =
    or_named text Mandatory (NoName text) tt (λ a.
    or_named text Alpn (NoName text) tt (λ b.
    or_named text NoDefaultAlpn (NoName text) tt (λ c.
    or_named text Port (NoName text) tt (λ d.
    or_named text Ipv4Hint (NoName text) tt (λ f.
    or_named text Ech (NoName text) tt (λ g.
    or_named text Ipv6Hint (NoName text) tt (λ h.
    or_named text DohPath (NoName text) tt (λ k.
    or_named text Ohttp (NoName text) tt (λ l.
    inr (no_name text a b c d f g h k l))))))))))

name_valid : (key : Key) → HasName key → number_of key < 65535
name_valid Mandatory has = omega arith
name_valid Alpn has = omega arith
name_valid NoDefaultAlpn has = omega arith
name_valid Port has = omega arith
name_valid Ipv4Hint has = omega arith
name_valid Ech has = omega arith
name_valid Ipv6Hint has = omega arith
name_valid DohPath has = omega arith
name_valid Ohttp has = omega arith
name_valid (Numbered n) has = absurd has

neither_key : (text : List ℕ) → NoName text → NothingIs (IsNumberedKey text) → (key : Key) → SpellsKey text key → ⊥
neither_key text none other (Numbered n) is = other n (is.spelt, is.valid)
neither_key text none other Mandatory is = none Mandatory tt is.spelt
neither_key text none other Alpn is = none Alpn tt is.spelt
neither_key text none other NoDefaultAlpn is = none NoDefaultAlpn tt is.spelt
neither_key text none other Port is = none Port tt is.spelt
neither_key text none other Ipv4Hint is = none Ipv4Hint tt is.spelt
neither_key text none other Ech is = none Ech tt is.spelt
neither_key text none other Ipv6Hint is = none Ipv6Hint tt is.spelt
neither_key text none other DohPath is = none DohPath tt is.spelt
neither_key text none other Ohttp is = none Ohttp tt is.spelt

pub key_or_not : (text : List ℕ) → Choice (SpellsKey text)
key_or_not text = elim (named_or_not text) [
  | inl named ↦ inl (named.0, record { spelt = named.1.1; valid = name_valid named.0 named.1.0 })
  | inr none ↦ elim (numbered_by text (same_or_not (take 3 text) (codes "key")) (number_or_not (drop 3 text))) [
    | inl found ↦ inl (Numbered found.0, record { spelt = found.1.0; valid = found.1.1 })
    | inr other ↦ inr (neither_key text none other)
  ]
]

-- ---- lists

zip_none : {A B : Type 0} (R : A → B → Type 0) (a : A) (xs : List A) → ((b : B) → R a b → ⊥) → (ys : List B) → AllZip R (a ∷ xs) ys → ⊥
zip_none R a xs none [] each = each
zip_none R a xs none (y ∷ ys) each = none y each.0

zip_stops : {A B : Type 0} (R : A → B → Type 0) (a : A) (xs : List A) → ((ys : List B) → AllZip R xs ys → ⊥) → (ys : List B) → AllZip R (a ∷ xs) ys → ⊥
zip_stops R a xs none [] each = each
zip_stops R a xs none (y ∷ ys) each = none ys each.1

zip_by : {A B : Type 0} (R : A → B → Type 0) (a : A) (xs : List A) → Choice (R a) → Choice (AllZip R xs) → Choice (AllZip R (a ∷ xs))
zip_by R a xs (inl found) (inl more) = inl (found.0 ∷ more.0, (found.1, more.1))
zip_by R a xs (inr none) more = inr (zip_none R a xs none)
zip_by R a xs (inl found) (inr none) = inr (zip_stops R a xs none)

zip_or_not : {A B : Type 0} (R : A → B → Type 0) → ((a : A) → Choice (R a)) → (xs : List A) → Choice (AllZip R xs)
zip_or_not R one [] = inl ([], tt)
zip_or_not R one (x ∷ xs) = zip_by R x xs (one x) (zip_or_not R one xs)

key_text_or_not : (text : List ℕ) → Choice (IsKeyText text)
key_text_or_not text = elim (key_or_not text) [
  | inl found ↦ inl (number_of found.0, record { key = found.0; spelt = found.1; numbered = refl })
  | inr none ↦ inr (λ n is. none is.key is.spelt)
]

ascend_or_not : (low : ℕ) (numbers : List ℕ) → Decided (AscendAbove low numbers)
ascend_or_not low [] = inl tt
ascend_or_not low (n ∷ numbers) = both_or_not (at_most_or_not (suc low) n) (ascend_or_not n numbers)

keys_by : (text stated sorted : List ℕ) → AllZip IsKeyText (listed text) stated → IsPermutation stated sorted → RiseFrom 0 sorted → Decided (AscendAbove 0 sorted) → Choice (ListsKeys text)
keys_by text stated sorted each same rise (inl ascend) = inl (sorted, record { stated = stated; each = each; same = same; ascend = ascend })
keys_by text stated sorted each same rise (inr none) = inr (λ numbers is.
    let e = stated_once text is.stated stated is.each each in
    let found = rise_once stated numbers sorted (subst (λ t. IsPermutation t numbers) e is.same) same (rise_weaker 0 numbers is.ascend) rise in
    none (subst (AscendAbove 0) found is.ascend))

lists_keys_or_not : (text : List ℕ) → Choice (ListsKeys text)
lists_keys_or_not text = elim (zip_or_not IsKeyText key_text_or_not (listed text)) [
  | inr none ↦ inr (λ numbers is. none is.stated is.each)
  | inl found ↦
      let order = in_order found.0 in
      keys_by text found.0 order.sorted found.1 order.same order.rise (ascend_or_not 0 order.sorted)
]

addresses_or_not : (Is : List ℕ → List ℕ → Type 0) → ((text : List ℕ) → Choice (Is text)) → (text : List ℕ) → Choice (ListsAddresses Is text)
addresses_or_not Is one text = elim (zip_or_not Is one (listed text)) [
  | inr none ↦ inr (λ octets is. none is.addresses is.each)
  | inl found ↦ inl (flat_map (λ address. address) found.0, record { addresses = found.0; each = found.1; value = refl })
]

-- ---- protocols

protocol_or_not : (name : List ℕ) → Decided (IsProtocol name)
protocol_or_not name = both_or_not (at_most_or_not 1 (length name)) (at_most_or_not (length name) 255)

items_by : (text : List ℕ) (items : List (List ℕ)) → items_of false text ≡ Some items → Decided (AllByRecursion IsProtocol items) → Choice (ReadsItems text)
items_by text items e (inl each) = inl (flat_map with_length items, record { protocols = items; items = e; each = each; value = refl })
items_by text items e (inr none) = inr (λ octets is. let both : Some items ≡ Some is.protocols = sym e ∙ is.items in let same : items ≡ is.protocols = cc both in none (subst (AllByRecursion IsProtocol) (sym same) is.each))

items_from : (text : List ℕ) (found : Option (List (List ℕ))) → items_of false text ≡ found → Choice (ReadsItems text)
items_from text None e = inr (λ octets is. absurd (let both = sym e ∙ is.items in cc both))
items_from text (Some items) e = items_by text items e (each_or_not IsProtocol protocol_or_not items)

protocols_by : (text spelt : List ℕ) → Unescaped text spelt → Choice (ReadsItems spelt) → Choice (ListsProtocols text)
protocols_by text spelt is (inl found) = let all = protocols_appended text spelt spelt [] found.0 is refl (record { octets = found.0; stated = found.1; written = refl }) in inl (all.octets, all.stated)
protocols_by text spelt is (inr none) = inr (protocols_stop text spelt spelt is refl none)

-- ---- one value

abbrev UnescapedOrBad : List ℕ → Type 0
UnescapedOrBad text = EitherIs (Unescaped text) (λ (fault : WordsFault). (fault ≡ BadEscape) × ComesToBadEscape text)

unescaped_by : (text : List ℕ) → UnescapedOrBad text → Choice (Unescaped text)
unescaped_by text (inl found) = inl found
unescaped_by text (inr bad) = inr (λ octets is. unescaped_or_bad text octets is bad.1.1)

unescaped_or_not : (text : List ℕ) → Choice (Unescaped text)
unescaped_or_not text = unescaped_by text (unescaped_decided text)

protocols_or_not : (text : List ℕ) → Choice (ListsProtocols text)
protocols_or_not text = elim (unescaped_or_not text) [
  | inr none ↦ inr (λ octets is. none is.spelt is.unescaped)
  | inl found ↦ protocols_by text found.0 found.1 (items_from found.0 (items_of false found.0) refl)
]

none_or_not : (text : List ℕ) → Choice (StatesNone text)
none_or_not [] = inl ([], (refl, refl))
none_or_not (c ∷ text) = inr (λ octets is. absurd (let e = is.0 in cc e))

path_or_not : (text : List ℕ) → Choice (StatesPath text)
path_or_not [] = inr (λ octets is. omega (arith, is.1))
path_or_not (c ∷ text) = elim (unescaped_or_not (c ∷ text)) [
  | inr none ↦ inr (λ octets is. none octets is.0)
  | inl found ↦ inl (found.0, (found.1, omega arith))
]

port_or_not : (text : List ℕ) → Choice (StatesPort text)
port_or_not text = elim (spelled_or_not w16 text) [
  | inr none ↦ inr (λ octets is. none is.0 is.1)
  | inl found ↦ inl (to_be_bytes w16 found.0, (found.0, found.1, refl))
]

states_keys_or_not : (text : List ℕ) → Choice (StatesKeys text)
states_keys_or_not text = elim (lists_keys_or_not text) [
  | inr none ↦ inr (λ octets is. none is.0 is.1)
  | inl found ↦ inl (flat_map (to_be_bytes w16) found.0, (found.0, found.1, refl))
]

value_or_not : (key : Key) (text : List ℕ) → AreOctets text → Choice (StatesValue key text)
value_or_not Mandatory text low = states_keys_or_not text
value_or_not Alpn text low = protocols_or_not text
value_or_not NoDefaultAlpn text low = none_or_not text
value_or_not Port text low = port_or_not text
value_or_not Ipv4Hint text low = addresses_or_not _ ipv4_or_not text
value_or_not Ech text low = base64_or_not text low
value_or_not Ipv6Hint text low = addresses_or_not _ ipv6_or_not text
value_or_not DohPath text low = path_or_not text
value_or_not Ohttp text low = none_or_not text
value_or_not (Numbered n) text low = unescaped_or_not text

escapes_or_not : (key : Key) → Decided (HasEscapes key)
escapes_or_not Mandatory = inr (λ has. has)
escapes_or_not Alpn = inl tt
escapes_or_not NoDefaultAlpn = inr (λ has. has)
escapes_or_not Port = inr (λ has. has)
escapes_or_not Ipv4Hint = inr (λ has. has)
escapes_or_not Ech = inr (λ has. has)
escapes_or_not Ipv6Hint = inr (λ has. has)
escapes_or_not DohPath = inl tt
escapes_or_not Ohttp = inr (λ has. has)
escapes_or_not (Numbered n) = inl tt

value_by : (key : Key) (text : List ℕ) → Choice (StatesValue key text) → Decided (HasEscapes key) → Choice (Unescaped text) → EitherIs (StatesValue key text) (FailsValue key text)
value_by key text (inl found) has spelt = inl found
value_by key text (inr none) (inl has) (inr wrong) = inr (BadEscape, bad_escape has wrong)
value_by key text (inr none) (inl has) (inl spelt) = inr (NotAValue, no_value (λ h. spelt) none)
value_by key text (inr none) (inr plain) spelt = inr (NotAValue, no_value (λ has. absurd (plain has)) none)

pub value_decided : (key : Key) (text : List ℕ) → AreOctets text → EitherIs (StatesValue key text) (FailsValue key text)
value_decided key text low = value_by key text (value_or_not key text low) (escapes_or_not key) (unescaped_or_not text)

-- the keys that a value requires
pub required_by : (key : Key) (text octets : List ℕ) → StatesValue key text octets → (numbers : List ℕ) × RequiresKeys key text numbers
required_by Mandatory text octets is = (is.0, is.1)
required_by Alpn text octets is = ([], refl)
required_by NoDefaultAlpn text octets is = ([], refl)
required_by Port text octets is = ([], refl)
required_by Ipv4Hint text octets is = ([], refl)
required_by Ech text octets is = ([], refl)
required_by Ipv6Hint text octets is = ([], refl)
required_by DohPath text octets is = ([], refl)
required_by Ohttp text octets is = ([], refl)
required_by (Numbered n) text octets is = ([], refl)
