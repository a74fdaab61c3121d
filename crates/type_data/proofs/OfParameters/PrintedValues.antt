-- Values of keys as they are printed, and octets that are no value of a key.
use Rattle.type_data.proofs.Common.{All-from_recursion, All-permutation, AllByRecursion, AllZip, IfErr, Key, Ipv4Hint, Ipv6Hint, List, ListsAddresses, ListsKeys, Mandatory, Result, Sent, [], ap, arith, flat_map, length, listed, recursion_from_All, refl, subst, sym, to_be_bytes, w16, ℕ, ◌<◌, ◌==◌, ◌∙◌, ◌∷◌, ◌≡◌}
use Rattle.std.proofs.lemmas.List.Sorted.{length_permutation}
use Rattle.std.proofs.lemmas.List.Splits.{length-slice_split}
use Rattle.std.proofs.lemmas.Result.{on_ok_weaker}
use Rattle.std.specs.Prelude.{Err, Ok, OnOk}
use Rattle.zone_rdata.proofs.Addresses.AddressOctets.{ipv4_count, ipv6_count}
use Rattle.zone_rdata.specs.Address.{IsIpv4Address, IsIpv6Address}
use Rattle.type_data.proofs.OfParameters.KeyLists.{lists_keys_once}
use Rattle.type_data.proofs.OfParameters.PrintedKeys.{numbers_of}
use Rattle.type_data.proofs.OfParameters.Stops.{if_no_data}
use Rattle.type_data.specs.Parameters.Machine.Printed.{AppendsQuoted, AppendsUnquoted, AppendsValue, AreAddresses, AreKeys, NoAddresses, NoValue, StopsAs, numbers_in}
use Rattle.type_data.specs.Parameters.Printed.{IsAmong, PrintsValue, in_quotes, unquoted}
use Rattle.type_data.specs.Parameters.Value.{IsKeyText}
use Rattle.type_data.specs.Printed.{IfNoData}
use Rattle.type_data.specs.declared.unprinted.Unprinted.{Unprinted}

-- ---- what is printed

pub unquoted_printed : {T E : Type 0} (r : Result T E) (parameters : List Sent) (key own : Key) (P : List ℕ → Type 0) (octets old new : List ℕ) → key ≡ own → ((text : List ℕ) → P text → PrintsValue parameters own (unquoted text) octets) → OnOk r (AppendsUnquoted P old new) → OnOk r (AppendsValue (λ text. PrintsValue parameters key text octets) old new)
unquoted_printed r parameters key own P octets old new is goes = on_ok_weaker r (λ a. subst (λ k. AppendsValue (λ text. PrintsValue parameters k text octets) old new) (sym is) (record { text = unquoted a.text; printed = goes a.text a.printed; appended = a.appended }))

pub quoted_printed : {T E : Type 0} (r : Result T E) (parameters : List Sent) (key own : Key) (P : List ℕ → Type 0) (octets old new : List ℕ) → key ≡ own → ((text : List ℕ) → P text → PrintsValue parameters own (in_quotes text) octets) → OnOk r (AppendsQuoted P old new) → OnOk r (AppendsValue (λ text. PrintsValue parameters key text octets) old new)
quoted_printed r parameters key own P octets old new is goes = on_ok_weaker r (λ a. subst (λ k. AppendsValue (λ text. PrintsValue parameters k text octets) old new) (sym is) (record { text = in_quotes a.text; printed = goes a.text a.printed; appended = a.appended }))

stops_weaker : (e : Unprinted) (P Q : Type 0) (old new : List ℕ) → (P → Q) → IfNoData (StopsAs P old new) e → IfNoData (StopsAs Q old new) e
stops_weaker e P Q old new goes = if_no_data e (StopsAs P old new) (StopsAs Q old new) (λ s. record { reason = goes s.reason; added = s.added; appended = s.appended })

pub stops_answered : {T : Type 0} (r : Result T Unprinted) (parameters : List Sent) (key own : Key) (P : Type 0) (octets old new : List ℕ) → key ≡ own → (P → NoValue parameters own octets) → IfErr r (IfNoData (StopsAs P old new)) → IfErr r (IfNoData (StopsAs (NoValue parameters key octets) old new))
stops_answered (Ok x) parameters key own P octets old new is goes h = tt
stops_answered (Err e) parameters key own P octets old new is goes h = stops_weaker e P (NoValue parameters key octets) old new (λ p. subst (λ k. NoValue parameters k octets) (sym is) (goes p)) h

-- ---- lists of addresses

listed_some : (text : List ℕ) → 0 < length (listed text)
listed_some text = omega (arith, length-slice_split (λ c. c == 44) text)

zip_counted : {X : Type 0} (Is : List ℕ → X → Type 0) (texts : List (List ℕ)) (xs : List X) → AllZip Is texts xs → length xs ≡ length texts
zip_counted Is [] [] each = refl
zip_counted Is [] (x ∷ xs) each = absurd each
zip_counted Is (t ∷ texts) [] each = absurd each
zip_counted Is (t ∷ texts) (x ∷ xs) each = omega (arith, zip_counted Is texts xs each.1)

zip_each : {X : Type 0} (Is : List ℕ → X → Type 0) (P : X → Type 0) → ((text : List ℕ) (x : X) → Is text x → P x) → (texts : List (List ℕ)) (xs : List X) → AllZip Is texts xs → AllByRecursion P xs
zip_each Is P goes [] [] each = tt
zip_each Is P goes [] (x ∷ xs) each = absurd each
zip_each Is P goes (t ∷ texts) [] each = absurd each
zip_each Is P goes (t ∷ texts) (x ∷ xs) each = (goes t x each.0, zip_each Is P goes texts xs each.1)

are_addresses : (Is : List ℕ → List ℕ → Type 0) (size : ℕ) (words octets : List ℕ) → ((text x : List ℕ) → Is text x → length x ≡ size) → (are : ListsAddresses Is words octets) → AreAddresses size are.addresses octets
are_addresses Is size words octets sized are = record {
  some = omega (arith, listed_some words, zip_counted Is (listed words) are.addresses are.each);
  each = zip_each Is (λ x. length x ≡ size) sized (listed words) are.addresses are.each;
  value = are.value;
}

pub no_ipv4_value : (parameters : List Sent) (octets : List ℕ) → NoAddresses 4 octets → NoValue parameters Ipv4Hint octets
no_ipv4_value parameters octets none words is = none is.value.addresses (are_addresses IsIpv4Address 4 words octets ipv4_count is.value)

pub no_ipv6_value : (parameters : List Sent) (octets : List ℕ) → NoAddresses 16 octets → NoValue parameters Ipv6Hint octets
no_ipv6_value parameters octets none words is = none is.value.addresses (are_addresses IsIpv6Address 16 words octets ipv6_count is.value)

-- ---- keys that have to be there

numbers_back : (numbers : List ℕ) → AllByRecursion (λ n. n < 65535) numbers → numbers_in (flat_map (to_be_bytes w16) numbers) ≡ numbers
numbers_back [] each = refl
numbers_back (n ∷ numbers) each = numbers_of n (flat_map (to_be_bytes w16) numbers) (omega (arith, each.0)) ∙ ap (λ t. n ∷ t) (numbers_back numbers each.1)

key_valid : (text : List ℕ) (n : ℕ) → IsKeyText text n → n < 65535
key_valid text n is = omega (arith, is.numbered, is.spelt.valid)

keys_valid : (words numbers : List ℕ) → ListsKeys words numbers → AllByRecursion (λ n. n < 65535) numbers
keys_valid words numbers are = recursion_from_All (λ n. n < 65535) numbers (All-permutation (λ n. n < 65535) are.stated numbers are.same (All-from_recursion (λ n. n < 65535) are.stated (zip_each IsKeyText (λ n. n < 65535) key_valid (listed words) are.stated are.each)))

keys_some : (words numbers : List ℕ) → ListsKeys words numbers → 0 < length numbers
keys_some words numbers are = omega (arith, listed_some words, zip_counted IsKeyText (listed words) are.stated are.each, length_permutation are.stated numbers are.same)

some_octets : (numbers : List ℕ) → 0 < length numbers → 0 < length (flat_map (to_be_bytes w16) numbers)
some_octets [] some = absurd (omega (arith, some))
some_octets (n ∷ numbers) some = omega arith

pub no_keys_value : (parameters : List Sent) (octets : List ℕ) → (0 < length octets → AreKeys parameters (numbers_in octets) octets → ⊥) → NoValue parameters Mandatory octets
no_keys_value parameters octets none words is =
    let numbers = is.value.0 in
    let lists = is.value.1 in
    let value : octets ≡ flat_map (to_be_bytes w16) numbers = is.value.2 in
    let back = ap numbers_in value ∙ numbers_back numbers (keys_valid words numbers lists) in
    let same = lists_keys_once words is.required numbers is.requires_keys lists in
    none (omega (arith, ap length value, some_octets numbers (keys_some words numbers lists))) (subst (λ t. AreKeys parameters t octets) (sym back) (record { ascend = lists.ascend; there = subst (AllByRecursion (IsAmong parameters)) same is.there; value = value }))
