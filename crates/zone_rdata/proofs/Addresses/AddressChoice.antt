-- A text is an address or none.
use Rattle.zone_rdata.proofs.Common.{[], Bool, Err, List, Ok, Result, ap, arith, drop, false, get_or, inl, inr, length, refl, replicate, suc, sym, take, true, zero, ℕ, ◌++◌, ◌+◌, ◌-◌, ◌<◌, ◌∙◌, ◌∷◌, ◌≡◌, ◌≢◌, ◌≤◌, ◌⊎◌, cases_eq, cases_lt, AllZip, decode_sized, AreAround, ArePartsOf, IsIpv4Address, IsIpv6Address, IsOctetNumber, eight, IsAddress, of_ipv4, of_ipv6, HasGapAt, IsGroupOf, IsLastPartOf, IsDecimal, FromHexError, Choice, below_or_not, choice_as, choice_both}
use Rattle.zone_rdata.proofs.Addresses.AddressOctets.{no_ipv4, no_ipv6}
use Rattle.zone_rdata.proofs.Addresses.AddressGaps.{IsFirstGap, found_at_gap, refused_at_gap, refused_without_gap}
use Rattle.zone_rdata.proofs.Addresses.AddressParts.{HaveParts, parts_found, parts_listed, parts_unique}
use Rattle.zone_rdata.proofs.Addresses.Cut.{numbers_parts, parts_numbers, split, zip_first}
use Rattle.zone_rdata.proofs.Items.GenericLaws.{decimal_or_not}

-- ---- numbers parted by dots
octet_or_not : (text : List ℕ) → Choice (IsOctetNumber text)
octet_or_not text = grind (arith, below_or_not (IsDecimal text) 256 (λ a b h k. h.value ∙ sym k.value) (decimal_or_not text))

zip_or_not : (texts : List (List ℕ)) → Choice (AllZip IsOctetNumber texts)
zip_or_not [] = inl ([], tt)
zip_or_not (text ∷ texts) = choice_both (λ n octets. n ∷ octets) (λ n octets is each. (is, each)) (λ octets each. let first = zip_first text texts octets each in ((first.0, first.2), (first.1, first.3))) (octet_or_not text) (zip_or_not texts)

pub ipv4_or_not : (text : List ℕ) → Choice (IsIpv4Address text)
ipv4_or_not text = elim (cases_eq (length (split 46 text)) 4) [
  | inl count ↦ choice_as (λ octets. octets) (λ octets. parts_numbers 4 text octets count) (λ none octets are. none octets (numbers_parts 3 text octets are).1) (zip_or_not (split 46 text))
  | inr other ↦ inr (λ octets are. other (numbers_parts 3 text octets are).0)
]

-- ---- parts between colons
value_by : (text : List ℕ) (found : Result (List ℕ) FromHexError) → 0 < length text → length text ≤ 4 → decode_sized (replicate (4 - length text) 48 ++ text) 2 ≡ found → Choice (IsGroupOf text)
value_by text (Ok octets) some few e = inl (octets, record { some = some; few = few; value = e })
value_by text (Err error) some few e = grind arith

group_or_not : (text : List ℕ) → Choice (IsGroupOf text)
group_or_not text = grind (arith, cases_lt 4 (length text), cases_lt 0 (length text), value_by text (decode_sized (replicate (4 - length text) 48 ++ text) 2))

last_by : (ends : Bool) (text : List ℕ) → Choice (IsGroupOf text) → Choice (IsIpv4Address text) → Choice (IsLastPartOf ends text)
last_by ends text (inl found) four = inl (found.0, inl found.1)
last_by true text (inr none) (inl found) = inl (found.0, inr (refl, found.1))
last_by true text (inr none) (inr none') = inr (λ octets h. elim h [ inl is ↦ none octets is | inr are ↦ none' octets are.1 ])
last_by false text (inr none) four = inr (λ octets h. elim h [ inl is ↦ none octets is | inr are ↦ absurd (let no = are.0 in cc) ])

texts_or_not : (ends : Bool) (texts : List (List ℕ)) → Choice (HaveParts ends texts)
texts_or_not ends [] = inl ([], refl)
texts_or_not ends (text ∷ []) = last_by ends text (group_or_not text) (ipv4_or_not text)
texts_or_not ends (text ∷ next ∷ texts) = choice_both (λ added more. added ++ more) (λ added more is have. (added, more, is, have, refl)) (λ octets have. ((have.0, have.2), (have.1, have.3))) (group_or_not text) (texts_or_not ends (next ∷ texts))

pub parts_or_not : (ends : Bool) (text : List ℕ) → Choice (ArePartsOf ends text)
parts_or_not ends [] = inl ([], record { parts = []; each = tt; parted = refl; value = refl })
parts_or_not ends (c ∷ text) = choice_as (λ octets. octets) (parts_listed ends (c ∷ text)) (λ none octets are. none octets (parts_found ends (c ∷ text) octets (omega arith) are)) (texts_or_not ends (split 58 (c ∷ text)))

-- ---- the first gap
abbrev Gaps : List ℕ → Type 0
Gaps text = ((at : ℕ) × ((at + 2 ≤ length text) × IsFirstGap text at)) ⊎ ((k : ℕ) → HasGapAt text k → ⊥)

not_before : (c : ℕ) (text : List ℕ) (at : ℕ) → (HasGapAt (c ∷ text) 0 → ⊥) → IsFirstGap text at → (k : ℕ) → k < suc at → HasGapAt (c ∷ text) k → ⊥
not_before c text at first h zero lt gap = first gap
not_before c text at first h (suc k) lt gap = h.none k (omega arith) gap

not_at : (c : ℕ) (text : List ℕ) → (HasGapAt (c ∷ text) 0 → ⊥) → ((k : ℕ) → HasGapAt text k → ⊥) → (k : ℕ) → HasGapAt (c ∷ text) k → ⊥
not_at c text first none zero gap = first gap
not_at c text first none (suc k) gap = none k gap

gap_after : (c : ℕ) (text : List ℕ) → (HasGapAt (c ∷ text) 0 → ⊥) → Gaps text → Gaps (c ∷ text)
gap_after c text first (inl found) = grind (arith, not_before)
gap_after c text first (inr none) = inr (not_at c text first none)

gap_here : (c : ℕ) (text : List ℕ) → (c ≡ 58) ⊎ (c ≢ 58) → (get_or text 0 0 ≡ 58) ⊎ (get_or text 0 0 ≢ 58) → Gaps text → Gaps (c ∷ text)
gap_here c [] (inl colon) second gaps = grind (arith, not_at)
gap_here c (d ∷ text) (inl colon) (inl second) gaps = grind arith
gap_here c (d ∷ text) (inl colon) (inr other) gaps = gap_after c (d ∷ text) (λ gap. other gap.1) gaps
gap_here c text (inr other) second gaps = gap_after c text (λ gap. other gap.0) gaps

gap_or_not : (text : List ℕ) → Gaps text
gap_or_not [] = inr (λ k gap. omega (arith, gap.0))
gap_or_not (c ∷ text) = gap_here c text (cases_eq c 58) (cases_eq (get_or text 0 0) 58) (gap_or_not text)

-- ---- an address of sixteen octets
room_by : (front back before after : List ℕ) → ArePartsOf false front before → ArePartsOf true back after → Choice (AreAround front back)
room_by front back before after x y = elim (cases_lt 14 (length before + length after)) [
  | inl full ↦ inr (λ octets h. grind (arith, parts_unique false front h.before before h.front_parts x, parts_unique true back h.after after h.back_parts y))
  | inr room ↦ inl (before ++ (replicate (16 - length before - length after) 0 ++ after), record { before = before; after = after; front_parts = x; back_parts = y; room = room; value = refl })
]

around_by : (front back : List ℕ) → Choice (ArePartsOf false front) → Choice (ArePartsOf true back) → Choice (AreAround front back)
around_by front back (inr none) others = inr (λ octets h. none h.before h.front_parts)
around_by front back (inl found) (inr none) = inr (λ octets h. none h.after h.back_parts)
around_by front back (inl found) (inl others) = room_by front back found.0 others.0 found.1 others.1

eight_by : (text : List ℕ) → ((k : ℕ) → HasGapAt text k → ⊥) → Choice (ArePartsOf true text) → Choice (IsIpv6Address text)
eight_by text no_gap (inr none) = inr (refused_without_gap text no_gap (λ octets are len. none octets are))
eight_by text no_gap (inl found) = elim (cases_eq (length found.0) 16) [
  | inl count ↦ inl (found.0, eight found.1 count)
  | inr other ↦ inr (refused_without_gap text no_gap (λ octets are len. other (ap length (parts_unique true text found.0 octets found.1 are) ∙ len)))
]

pub ipv6_or_not : (text : List ℕ) → Choice (IsIpv6Address text)
ipv6_or_not text = elim (gap_or_not text) [
  | inl found ↦
      let front = take found.0 text in
      let back = drop (found.0 + 2) text in
      choice_as (λ octets. octets) (found_at_gap text back found.0 refl found.1.0 found.1.1.here) (refused_at_gap text back found.0 refl found.1.1) (around_by front back (parts_or_not false front) (parts_or_not true back))
  | inr none ↦ eight_by text none (parts_or_not true text)
]

-- ---- an address of so many octets
pub address_or_not : (n : ℕ) (text : List ℕ) → Choice (IsAddress n text)
address_or_not n text = elim (cases_eq n 4) [
  | inl four ↦ choice_as (λ octets. octets) (λ octets. of_ipv4 four) (no_ipv4 n text four) (ipv4_or_not text)
  | inr not_ipv4 ↦ elim (cases_eq n 16) [
    | inl sixteen ↦ choice_as (λ octets. octets) (λ octets. of_ipv6 sixteen) (no_ipv6 n text sixteen) (ipv6_or_not text)
    | inr not_ipv6 ↦ inr (λ octets h. grind arith)
  ]
]
