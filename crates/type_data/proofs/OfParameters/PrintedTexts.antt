-- Texts of values that are printed state the octets of their keys.
use Rattle.type_data.proofs.Common.{AllByRecursion, AllByRecursion-append, AllByRecursion-back, AllByRecursion-front, AllZip, Alpn, AreOctets, Bool, DohPath, Ech, IsAddressOf, IsDecimal, IsKeyText, IsPermutation-refl, Ipv4Hint, Ipv6Hint, Key, List, ListsAddresses, ListsKeys, ListsProtocols, Mandatory, NoDefaultAlpn, Numbered, Ohttp, Port, Sent, Unescaped, [], and_parts, ap, arith, codes, false, flat_map, if◌then◌else◌, inl, inr, join_with_byte, key_text, length, list_all, listed, map, nat_tests, not, refl, subst, suc, sym, true, with_length, zero, ℕ, ◌&&◌, ◌<◌, ◌==◌, ◌∙◌, ◌∷◌, ◌≡◌, ◌≢◌, ◌||◌}
use Rattle.std.proofs.Common.{decimal}
use Rattle.std.proofs.lemmas.List.{length-map}
use Rattle.zone_name.specs.Spelling.{is_digit}
use Rattle.zone_rdata.proofs.Addresses.AddressLaws.{ipv4_plain, ipv4_printed, ipv6_plain, ipv6_printed}
use Rattle.zone_rdata.proofs.Addresses.Cut.{split_join}
use Rattle.zone_rdata.proofs.Common.{each_weaker}
use Rattle.zone_rdata.proofs.Items.GenericLaws.{decimal-is}
use Rattle.zone_rdata.specs.Address.{IsAddressOctet, ipv4_text, ipv6_text}
use Rattle.zone_rdata.specs.Strings.{inside_text}
use Rattle.type_data.proofs.OfKinds.Value.ReadAgain.{value_unescaped}
use Rattle.type_data.proofs.UnescapedTexts.{unescaped_once}
use Rattle.type_data.specs.Machine.Cuts.{IsMissing}
use Rattle.type_data.specs.Parameters.Machine.Printed.{address_text, size_of}
use Rattle.type_data.specs.Parameters.Keys.{number_of}
use Rattle.type_data.specs.Parameters.Printed.{IsAmong, IsSendable, IsStated, PrintsAddresses, PrintsKeys, PrintsPort, PrintsProtocols, PrintsValue, ValueText, in_quotes, left_out, unquoted, usual_key}
use Rattle.type_data.specs.Parameters.Value.{StatesPort, escaped_item, escaped_octet}
use Rattle.type_data.specs.declared.kinds.address.Version.{Version}
use Rattle.type_data.specs.declared.kinds.address.Version.TheVariants.{V4, V6}

-- ---- keys

pub usual_number : (n : ℕ) → number_of (usual_key n) ≡ n
usual_number zero = refl
usual_number (suc zero) = refl
usual_number (suc (suc zero)) = refl
usual_number (suc (suc (suc zero))) = refl
usual_number (suc (suc (suc (suc zero)))) = refl
usual_number (suc (suc (suc (suc (suc zero))))) = refl
usual_number (suc (suc (suc (suc (suc (suc zero)))))) = refl
usual_number (suc (suc (suc (suc (suc (suc (suc zero))))))) = refl
usual_number (suc (suc (suc (suc (suc (suc (suc (suc zero)))))))) = refl
usual_number (suc (suc (suc (suc (suc (suc (suc (suc (suc n))))))))) = refl

-- neither an equals sign nor a comma
abbrev pub IsKeyOctet : ℕ → Type 0
IsKeyOctet c = (c ≢ 61) × (c ≢ 44)

abbrev is_key_octet : ℕ → Bool
is_key_octet c = not (c == 61) && not (c == 44)

differs : (c d : ℕ) → not (c == d) ≡ true → c ≢ d
differs c d t e = grind (arith, nat_tests)

each_tested : (text : List ℕ) → list_all is_key_octet text ≡ true → AllByRecursion IsKeyOctet text
each_tested [] all = tt
each_tested (c ∷ text) all =
    let both = and_parts (is_key_octet c) (list_all is_key_octet text) all in
    let own = and_parts (not (c == 61)) (not (c == 44)) both.0 in
    ((differs c 61 own.0, differs c 44 own.1), each_tested text both.1)

digit_is : (c : ℕ) → is_digit c ≡ true → IsKeyOctet c
digit_is c hit = (λ e. cc (sym hit ∙ ap is_digit e), λ e. cc (sym hit ∙ ap is_digit e))

pub key_octets : (key : Key) → number_of key < 65535 → AllByRecursion IsKeyOctet (key_text key)
key_octets (Numbered n) low = AllByRecursion-append IsKeyOctet (codes "key") (decimal n) (each_tested (codes "key") refl) (each_weaker IsKeyOctet digit_is (decimal n) (decimal-is n (omega (arith, low))).digits)
key_octets key low = each_tested (key_text key) refl

-- ---- texts with commas between

listed_again : (texts : List (List ℕ)) → 0 < length texts → AllByRecursion (IsMissing 44) texts → listed (join_with_byte 44 texts) ≡ texts
listed_again [] some lacks = absurd (omega (arith, some))
listed_again (text ∷ texts) some lacks = split_join 44 text texts lacks

-- ---- addresses

no_comma : (c : ℕ) → IsAddressOctet c → c ≢ 44
no_comma c is = grind arith

address_again : (version : Version) (address : List ℕ) → length address ≡ size_of version → AreOctets address → AllByRecursion (λ d. d ≢ 44) (address_text version address) × IsAddressOf version (address_text version address) address
address_again V4 a sized low = (each_weaker (λ d. d ≢ 44) no_comma (ipv4_text a) (ipv4_plain a sized low), ipv4_printed a sized low)
address_again V6 a sized low = (each_weaker (λ d. d ≢ 44) no_comma (ipv6_text a) (ipv6_plain a sized low), ipv6_printed a sized low)

addresses_each : (version : Version) (addresses : List (List ℕ)) → AllByRecursion (λ a. length a ≡ size_of version) addresses → AreOctets (flat_map (λ a. a) addresses) → AllByRecursion (IsMissing 44) (map (address_text version) addresses) × AllZip (IsAddressOf version) (map (address_text version) addresses) addresses
addresses_each version [] sized low = (tt, tt)
addresses_each version (a ∷ addresses) sized low =
    let again = address_again version a sized.0 (AllByRecursion-front (λ c. c < 256) a (flat_map (λ a. a) addresses) low) in
    let more = addresses_each version addresses sized.1 (AllByRecursion-back (λ c. c < 256) a (flat_map (λ a. a) addresses) low) in
    ((again.0, more.0), (again.1, more.1))

addresses_state : (version : Version) (text octets : List ℕ) → AreOctets octets → PrintsAddresses (size_of version) (address_text version) text octets → ListsAddresses (IsAddressOf version) text octets
addresses_state version text octets low p =
    let each = addresses_each version p.addresses p.each (subst AreOctets p.value low) in
    let texts = map (address_text version) p.addresses in
    record {
      addresses = p.addresses;
      each = subst (λ t. AllZip (IsAddressOf version) t p.addresses) (sym (ap listed p.printed ∙ listed_again texts (omega (arith, length-map p.addresses (address_text version), p.some)) each.0)) each.1;
      value = p.value;
    }

-- ---- protocols

escaped_octets : (test : Bool) (c : ℕ) → c < 256 → AreOctets (if test then 92 ∷ c ∷ [] else c ∷ [])
escaped_octets true c low = (omega arith, (low, tt))
escaped_octets false c low = (low, tt)

escaped_each : (octets : List ℕ) → AreOctets octets → AreOctets (escaped_item octets)
escaped_each [] low = tt
escaped_each (c ∷ octets) low = AllByRecursion-append (λ c. c < 256) (escaped_octet c) (escaped_item octets) (escaped_octets (c == 44 || c == 92) c low.0) (escaped_each octets low.1)

items_each : (protocols : List (List ℕ)) → AreOctets (flat_map with_length protocols) → AllByRecursion AreOctets (map escaped_item protocols)
items_each [] low = tt
items_each (p ∷ protocols) low =
    let own = AllByRecursion-front (λ c. c < 256) p (flat_map with_length protocols) low.1 in
    (escaped_each p own, items_each protocols (AllByRecursion-back (λ c. c < 256) p (flat_map with_length protocols) low.1))

joined_each : (texts : List (List ℕ)) → AllByRecursion AreOctets texts → AreOctets (join_with_byte 44 texts)
joined_each [] each = tt
joined_each (text ∷ []) each = each.0
joined_each (text ∷ next ∷ texts) each = AllByRecursion-append (λ c. c < 256) text (44 ∷ join_with_byte 44 (next ∷ texts)) each.0 (omega arith, joined_each (next ∷ texts) each.1)

pub protocols_low : (protocols : List (List ℕ)) → AreOctets (flat_map with_length protocols) → AreOctets (join_with_byte 44 (map escaped_item protocols))
protocols_low protocols low = joined_each (map escaped_item protocols) (items_each protocols low)

protocols_state : (text octets : List ℕ) → AreOctets octets → PrintsProtocols text octets → ListsProtocols text octets
protocols_state text octets low p =
    let spelt = join_with_byte 44 (map escaped_item p.protocols) in
    let each = protocols_low p.protocols (subst AreOctets p.value low) in
    record {
      spelt = spelt;
      unescaped = subst (λ t. Unescaped t spelt) (sym p.printed) (value_unescaped spelt each);
      items = record { protocols = p.protocols; some = p.some; spelt = refl; each = p.each; value = p.value };
    }

-- ---- octets as they are

quoted_state : (text octets : List ℕ) → AreOctets octets → text ≡ inside_text octets → Unescaped text octets
quoted_state text octets low printed = subst (λ t. Unescaped t octets) (sym printed) (value_unescaped octets low)

no_text : (octets : List ℕ) → octets ≡ [] → Unescaped [] octets
no_text octets none = subst (Unescaped []) (sym none) (value_unescaped [] tt)

text_some : (text octets : List ℕ) → 0 < length octets → Unescaped text octets → 0 < length text
text_some [] octets some is = (let none = unescaped_once [] octets [] is (value_unescaped [] tt) in absurd (omega (arith, some, ap length none)))
text_some (c ∷ text) octets some is = omega arith

port_state : (text octets : List ℕ) → PrintsPort text octets → StatesPort text octets
port_state text octets p =
    let low = p.1 in
    (p.0, (subst (λ t. IsDecimal t p.0) (sym p.3) (decimal-is p.0 (omega (arith, low))), omega (arith, low)), p.2)

-- ---- keys that have to be there

among_low : (all : List Sent) → AllByRecursion IsSendable all → (n : ℕ) → IsAmong all n → n < 65535
among_low [] each n among = absurd among
among_low (s ∷ all) each n (inl e) = omega (arith, e, each.0.valid)
among_low (s ∷ all) each n (inr among) = among_low all each.1 n among

keys_each : (all : List Sent) → AllByRecursion IsSendable all → (numbers : List ℕ) → AllByRecursion (IsAmong all) numbers → AllByRecursion (IsMissing 44) (map (λ n. key_text (usual_key n)) numbers) × AllZip IsKeyText (map (λ n. key_text (usual_key n)) numbers) numbers
keys_each all sendable [] there = (tt, tt)
keys_each all sendable (n ∷ numbers) there =
    let low = among_low all sendable n there.0 in
    let valid : number_of (usual_key n) < 65535 = omega (arith, low, usual_number n) in
    let more = keys_each all sendable numbers there.1 in
    ((each_weaker (λ d. d ≢ 44) (λ c is. is.1) (key_text (usual_key n)) (key_octets (usual_key n) valid), more.0), (record { key = usual_key n; spelt = record { spelt = refl; valid = valid }; numbered = sym (usual_number n) }, more.1))

some_keys : (numbers : List ℕ) → 0 < length numbers → 0 < length (map (λ n. key_text (usual_key n)) numbers)
some_keys [] some = some
some_keys (n ∷ numbers) some = omega arith

pub keys_listed : (all : List Sent) (text octets : List ℕ) → AllByRecursion IsSendable all → (p : PrintsKeys all text octets) → ListsKeys text p.numbers
keys_listed all text octets sendable p =
    let each = keys_each all sendable p.numbers p.there in
    record {
      stated = p.numbers;
      each = subst (λ t. AllZip IsKeyText t p.numbers) (sym (ap listed p.printed ∙ listed_again (map (λ n. key_text (usual_key n)) p.numbers) (some_keys p.numbers p.some) each.0)) each.1;
      same = IsPermutation-refl p.numbers;
      ascend = p.ascend;
    }

-- ---- a value

-- the text of a value that is written
abbrev pub text_in : ValueText → List ℕ
text_in left_out = []
text_in (unquoted text) = text
text_in (in_quotes text) = text

pub value_printed : (all : List Sent) (key : Key) (value : ValueText) (octets : List ℕ) → AllByRecursion IsSendable all → AreOctets octets → PrintsValue all key value octets → IsStated all key (text_in value) octets
value_printed all Mandatory (unquoted text) octets sendable low p = record { value = (p.numbers, keys_listed all text octets sendable p, p.value); required = p.numbers; requires_keys = keys_listed all text octets sendable p; there = p.there }
value_printed all Alpn (in_quotes text) octets sendable low p = record { value = protocols_state text octets low p; required = []; requires_keys = refl; there = tt }
value_printed all NoDefaultAlpn left_out octets sendable low p = record { value = (refl, p); required = []; requires_keys = refl; there = tt }
value_printed all Port (unquoted text) octets sendable low p = record { value = port_state text octets p; required = []; requires_keys = refl; there = tt }
value_printed all Ipv4Hint (unquoted text) octets sendable low p = record { value = addresses_state V4 text octets low p; required = []; requires_keys = refl; there = tt }
value_printed all Ech (unquoted text) octets sendable low p = record { value = record { some = p.0; each = low; encoded = p.1 }; required = []; requires_keys = refl; there = tt }
value_printed all Ipv6Hint (unquoted text) octets sendable low p = record { value = addresses_state V6 text octets low p; required = []; requires_keys = refl; there = tt }
value_printed all DohPath (in_quotes text) octets sendable low p =
    let is = quoted_state text octets low p.1 in
    record { value = (is, text_some text octets p.0 is); required = []; requires_keys = refl; there = tt }
value_printed all Ohttp left_out octets sendable low p = record { value = (refl, p); required = []; requires_keys = refl; there = tt }
value_printed all (Numbered number) left_out octets sendable low p = record { value = no_text octets p; required = []; requires_keys = refl; there = tt }
value_printed all (Numbered number) (in_quotes text) octets sendable low p = record { value = quoted_state text octets low p.1; required = []; requires_keys = refl; there = tt }
value_printed all key value octets sendable low p = absurd p
