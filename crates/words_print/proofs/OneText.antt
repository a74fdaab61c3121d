-- The octets of a field have one text.
use Rattle.std.proofs.Common.{◌≡◌, ◌<◌, ◌+◌, ℕ, List, [], ◌∷◌, length, refl, sym, ap, ◌∙◌, subst, arith, Bool, decimal}
use Rattle.std.proofs.lemmas.Nat.{from_be_bytes-to_be_bytes_2, from_be_bytes-to_be_bytes_4}
use Rattle.std.specs.Int.{from_be_bytes, to_be_bytes, w8, w16, w32}
use Rattle.type_data.proofs.Common.{digits, encode_lower}
use Rattle.std.proofs.Common.{ap₂, map, ◌++◌}
use Rattle.std.specs.List.{AllByRecursion, flat_map, join_with_byte}
use Rattle.zone_name.proofs.InOctets.Octets.{labels_of-wire_cased}
use Rattle.zone_name.specs.Name.{labels_of, with_length}
use Rattle.zone_name.specs.Text.{name_text}
use Rattle.zone_rdata.proofs.Octets.Sent.{append_same}
use Rattle.type_data.specs.Kinds.Name.{PrintsName}
use Rattle.type_data.specs.Kinds.NodeId.{PrintsNodeId}
use Rattle.zone_rdata.specs.Item.{RawItem, bare, quoted}
use Rattle.zone_rdata.specs.Strings.{inside_text}
use Rattle.type_data.specs.Kinds.Address.{PrintsIpv4, PrintsIpv6}
use Rattle.type_data.specs.Kinds.AfterLength.{StatesAfterLength}
use Rattle.type_data.specs.Kinds.Base64.{IsBase64, PrintsBase64}
use Rattle.type_data.specs.Kinds.Eui.{PrintsEui}
use Rattle.type_data.specs.Kinds.Gateway.{PrintsAddressType, PrintsDiscovery, StatesNoAddress, discovery_bit}
use Rattle.type_data.specs.Kinds.Hexadecimal.{IsLowerHex, PrintsHex}
use Rattle.type_data.specs.Kinds.HostIdentity.{PrintsPublicKey}
use Rattle.type_data.specs.Kinds.Joined.{PrintsOneItem}
use Rattle.type_data.specs.Kinds.Number.{IsInOctets}
use Rattle.type_data.specs.Kinds.Salt.{IsPrintedSalt, digits as of_digits, no_octets}
use Rattle.type_data.specs.Kinds.Strings.{PrintsPerhaps, PrintsStringItem, PrintsStrings}
use Rattle.type_data.specs.Kinds.Tag.{PrintsTag}
use Rattle.type_data.specs.Kinds.Value.{PrintsValue}

-- ---- numbers

from_be_bytes-to_be_bytes_1 : (n : ℕ) → n < 256 → from_be_bytes w8 (to_be_bytes w8 n) ≡ n
from_be_bytes-to_be_bytes_1 n few = grind (arith)

module _ (text_of : ℕ → List ℕ) where
  pub by_u8 : (octets text other : List ℕ) → IsInOctets (λ n. text ≡ text_of n) w8 octets → IsInOctets (λ n. other ≡ text_of n) w8 octets → text ≡ other
  by_u8 octets text other p q =
      let same : p.number ≡ q.number = sym (from_be_bytes-to_be_bytes_1 p.number p.fits) ∙ ap (from_be_bytes w8) (sym p.value ∙ q.value) ∙ from_be_bytes-to_be_bytes_1 q.number q.fits in
      p.stated ∙ ap text_of same ∙ sym q.stated

  pub by_u16 : (octets text other : List ℕ) → IsInOctets (λ n. text ≡ text_of n) w16 octets → IsInOctets (λ n. other ≡ text_of n) w16 octets → text ≡ other
  by_u16 octets text other p q =
      let same : p.number ≡ q.number = sym (from_be_bytes-to_be_bytes_2 p.number p.fits) ∙ ap (from_be_bytes w16) (sym p.value ∙ q.value) ∙ from_be_bytes-to_be_bytes_2 q.number q.fits in
      p.stated ∙ ap text_of same ∙ sym q.stated

  pub by_u32 : (octets text other : List ℕ) → IsInOctets (λ n. text ≡ text_of n) w32 octets → IsInOctets (λ n. other ≡ text_of n) w32 octets → text ≡ other
  by_u32 octets text other p q =
      let same : p.number ≡ q.number = sym (from_be_bytes-to_be_bytes_4 p.number p.fits) ∙ ap (from_be_bytes w32) (sym p.value ∙ q.value) ∙ from_be_bytes-to_be_bytes_4 q.number q.fits in
      p.stated ∙ ap text_of same ∙ sym q.stated

  pub by_kind : (Is : ℕ → Type 0) (octets text other : List ℕ) → IsInOctets (λ n. (text ≡ text_of n) × Is n) w16 octets → IsInOctets (λ n. (other ≡ text_of n) × Is n) w16 octets → text ≡ other
  by_kind Is octets text other p q =
      by_u16 octets text other (record { number = p.number; stated = p.stated.0; fits = p.fits; value = p.value }) (record { number = q.number; stated = q.stated.0; fits = q.fits; value = q.value })

-- ---- after a length

after_length : (a b : List ℕ) → with_length a ≡ with_length b → a ≡ b
after_length a b e = cc e

pub by_length : (Prints : List ℕ → List ℕ → Type 0) → ((value text other : List ℕ) → Prints text value → Prints other value → text ≡ other)
    → (octets text other : List ℕ) → StatesAfterLength Prints text octets → StatesAfterLength Prints other octets → text ≡ other
by_length Prints once octets text other p q =
    once q.value text other (subst (Prints text) (after_length p.value q.value (sym p.written ∙ q.written)) p.stands) q.stands

pub lower_hex : (octets text other : List ℕ) → IsLowerHex text octets → IsLowerHex other octets → text ≡ other
lower_hex octets text other p q = p.digits ∙ sym q.digits

some_octet : (octets : List ℕ) → octets ≡ [] → 0 < length octets → ⊥
some_octet octets e some = let bad : 0 < 0 = subst (λ o. 0 < length o) e some in omega arith

pub printed_salt : (octets text other : List ℕ) → IsPrintedSalt text octets → IsPrintedSalt other octets → text ≡ other
printed_salt octets text other (no_octets p e) (no_octets q f) = p ∙ sym q
printed_salt octets text other (no_octets p e) (of_digits q) = absurd (some_octet octets e q.some)
printed_salt octets text other (of_digits p) (no_octets q f) = absurd (some_octet octets f p.some)
printed_salt octets text other (of_digits p) (of_digits q) = lower_hex octets text other p q

pub tag : (octets text other : List ℕ) → PrintsTag text octets → PrintsTag other octets → text ≡ other
tag octets text other p q = after_length text other (sym p.1 ∙ q.1)

-- ---- texts that the octets give

pub ipv4 : (octets text other : List ℕ) → PrintsIpv4 text octets → PrintsIpv4 other octets → text ≡ other
ipv4 octets text other p q = p.canonical ∙ sym q.canonical

pub ipv6 : (octets text other : List ℕ) → PrintsIpv6 text octets → PrintsIpv6 other octets → text ≡ other
ipv6 octets text other p q = p.canonical ∙ sym q.canonical

pub eui : (count : ℕ) (octets text other : List ℕ) → PrintsEui count text octets → PrintsEui count other octets → text ≡ other
eui count octets text other p q = p.printed ∙ sym q.printed

same_octet : (m n k : ℕ) → (k + m) ∷ [] ≡ (k + n) ∷ [] → m ≡ n
same_octet m n k e = let s : k + m ≡ k + n = cc e in omega arith

pub address_type : (optional : Bool) (octets text other : List ℕ) → PrintsAddressType optional text octets → PrintsAddressType optional other octets → text ≡ other
address_type optional octets text other p q =
    p.printed ∙ ap decimal (same_octet p.number q.number (discovery_bit optional) (sym p.value ∙ q.value)) ∙ sym q.printed

pub no_address : (octets text other : List ℕ) → StatesNoAddress text octets → StatesNoAddress other octets → text ≡ other
no_address octets text other p q = p.0 ∙ sym q.0

-- ---- items

one_item : (Prints : List ℕ → List ℕ → Type 0) → ((octets text other : List ℕ) → Prints text octets → Prints other octets → text ≡ other)
    → (octets : List ℕ) (items others : List RawItem) → PrintsOneItem Prints items octets → PrintsOneItem Prints others octets → items ≡ others
one_item Prints once octets items others (text, p, are) (other, q, too) = are ∙ ap (λ t. bare t ∷ []) (once octets text other p q) ∙ sym too

base64_text : (octets text other : List ℕ) → IsBase64 text octets → IsBase64 other octets → text ≡ other
base64_text octets text other p q = p.encoded ∙ sym q.encoded

pub hex_items : (octets : List ℕ) (items others : List RawItem) → PrintsHex items octets → PrintsHex others octets → items ≡ others
hex_items = one_item IsLowerHex lower_hex

pub base64_items : (octets : List ℕ) (items others : List RawItem) → PrintsBase64 items octets → PrintsBase64 others octets → items ≡ others
base64_items = one_item IsBase64 base64_text

pub value_items : (octets : List ℕ) (items others : List RawItem) → PrintsValue items octets → PrintsValue others octets → items ≡ others
value_items octets items others p q = p.1 ∙ sym q.1

abbrev quoted_items : List ℕ → List RawItem
quoted_items string = quoted (inside_text string) ∷ []

some_length : (string : List ℕ) → [] ≡ with_length string → ⊥
some_length string e = cc e

pub string_items : (octets : List ℕ) (items others : List RawItem) → PrintsStringItem items octets → PrintsStringItem others octets → items ≡ others
string_items octets items others p q =
    p.printed ∙ ap quoted_items (after_length p.string q.string (sym p.value ∙ q.value)) ∙ sym q.printed

pub perhaps_items : (octets : List ℕ) (items others : List RawItem) → PrintsPerhaps items octets → PrintsPerhaps others octets → items ≡ others
perhaps_items octets [] [] p q = refl
perhaps_items octets [] (other ∷ others) p q = absurd (some_length q.string (sym p ∙ q.value))
perhaps_items octets (item ∷ items) [] p q = absurd (some_length p.string (sym q ∙ p.value))
perhaps_items octets (item ∷ items) (other ∷ others) p q = string_items octets (item ∷ items) (other ∷ others) p q

-- ---- names, and lists whose parts tell their ends

pub name : (octets text other : List ℕ) → PrintsName text octets → PrintsName other octets → text ≡ other
name octets text other (labels, is, p, e) (others, too, q, f) =
    let same : labels ≡ others = sym (labels_of-wire_cased labels is.each) ∙ ap labels_of (sym e ∙ f) ∙ labels_of-wire_cased others too.each in
    p ∙ ap name_text same ∙ sym q

first_part : (a b x y : List ℕ) → with_length a ++ x ≡ with_length b ++ y → (a ≡ b) × (x ≡ y)
first_part a b x y e =
    let counted : length a ≡ length b = cc e in
    let behind : a ++ x ≡ b ++ y = cc e in
    append_same a b x y counted behind

strings_once : (a b : List (List ℕ)) → flat_map with_length a ≡ flat_map with_length b → a ≡ b
strings_once [] [] e = refl
strings_once [] (y ∷ b) e = absurd (cc e)
strings_once (x ∷ a) [] e = absurd (cc e)
strings_once (x ∷ a) (y ∷ b) e =
    let parts = first_part x y (flat_map with_length a) (flat_map with_length b) e in
    ap₂ (λ (t : List ℕ) (ts : List (List ℕ)). t ∷ ts) parts.0 (strings_once a b parts.1)

pub strings : (octets : List ℕ) (items others : List RawItem) → PrintsStrings items octets → PrintsStrings others octets → items ≡ others
strings octets items others p q =
    p.printed ∙ ap (map (λ string. quoted (inside_text string))) (strings_once p.strings q.strings (sym p.value ∙ q.value)) ∙ sym q.printed

pairs_once : (a b : List (List ℕ)) → AllByRecursion (λ group. length group ≡ 2) a → AllByRecursion (λ group. length group ≡ 2) b → length a ≡ length b → flat_map (λ group. group) a ≡ flat_map (λ group. group) b → a ≡ b
pairs_once [] [] p q n e = refl
pairs_once [] (y ∷ b) p q n e = absurd (cc n)
pairs_once (x ∷ a) [] p q n e = absurd (cc n)
pairs_once (x ∷ a) (y ∷ b) p q n e =
    let parts = append_same x y (flat_map (λ group. group) a) (flat_map (λ group. group) b) (p.0 ∙ sym q.0) e in
    ap₂ (λ (t : List ℕ) (ts : List (List ℕ)). t ∷ ts) parts.0 (pairs_once a b p.1 q.1 (omega arith) parts.1)

pub node_id : (octets text other : List ℕ) → PrintsNodeId text octets → PrintsNodeId other octets → text ≡ other
node_id octets text other p q =
    p.printed ∙ ap (λ groups. join_with_byte 58 (map encode_lower groups)) (pairs_once p.groups q.groups p.two q.two (p.four ∙ sym q.four) (sym p.whole ∙ q.whole)) ∙ sym q.printed

-- ---- a key after its length

pub public_key : (octets text other : List ℕ) → PrintsPublicKey text octets → PrintsPublicKey other octets → text ≡ other
public_key octets text other p q =
    let parts = append_same (to_be_bytes w16 (length p.key)) (to_be_bytes w16 (length q.key)) p.key q.key refl (sym p.written ∙ q.written) in
    base64_text q.key text other (subst (IsBase64 text) parts.1 p.stands) q.stands

-- ---- the bit of a relay's type has two texts for no octets

abbrev head_of : List ℕ → ℕ
head_of [] = 0
head_of (c ∷ text) = c

apart : decimal 0 ≡ decimal 1 → ⊥
unfolding digits
apart e = let first : 48 ≡ 49 = ap head_of e in omega (arith, first)

pub two_texts : ((octets text other : List ℕ) → PrintsDiscovery text octets → PrintsDiscovery other octets → text ≡ other) → ⊥
two_texts once =
    let same : decimal 0 ≡ decimal 1 = once [] (decimal 0) (decimal 1) (record { number = 0; few = omega arith; printed = refl; value = refl }) (record { number = 1; few = omega arith; printed = refl; value = refl }) in
    apart same
