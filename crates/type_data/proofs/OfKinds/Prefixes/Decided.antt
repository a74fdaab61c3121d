-- Prefixes of addresses are stated or none.
use Rattle.std.proofs.lemmas.Bool.{cases_eq}
use Rattle.zone_name.specs.Common.{EitherIs}
use Rattle.zone_rdata.proofs.Addresses.AddressChoice.{ipv4_or_not, ipv6_or_not}
use Rattle.zone_rdata.proofs.Choices.{Choice, choice_both}
use Rattle.zone_rdata.proofs.Items.GenericLaws.{decimal_or_not}
use Rattle.zone_rdata.specs.Address.{IsIpv4Address, IsIpv6Address}
use Rattle.zone_rdata.specs.Item.{bare, quoted}
use Rattle.type_data.proofs.Common.{Bool, IsCutFirst, IsCutLast, IsDecimal, IsMissing, List, NothingIs, RawItem, [], ap, arith, cases_lt, false, false≢true, inl, inr, length, refl, subst, sym, take, to_be_bytes, true, w16, ℕ, ◌*◌, ◌++◌, ◌+◌, ◌<◌, ◌∙◌, ◌∷◌, ◌≡◌, ◌≢◌, ◌≤◌, ◌⊎◌}
use Rattle.type_data.proofs.OfKinds.Bitmap.Decided.{trimmed}
use Rattle.type_data.proofs.Decided.Choices.{by_own}
use Rattle.type_data.proofs.Decided.Cuts.{cut_or_missing}
use Rattle.type_data.proofs.OfKinds.Prefixes.Once.{AreOwnBits, IsOwnAddress, no_address, no_bits_of, no_family, no_length, prefix_appended}
use Rattle.type_data.specs.Kinds.Prefixes.{FailsPrefixes, IsPrefixOctets, SpellsPrefix, StatesPrefix, StatesPrefixes, family_of, mark, octets_of, sign}
use Rattle.type_data.specs.Kinds.Prefixes.Machine.{IsAfterMark}
use Rattle.type_data.specs.declared.fault.WordsFault.TheVariants.{NoPrefix}
use Rattle.type_data.specs.declared.kinds.prefixes.Address.{Address}
use Rattle.type_data.specs.declared.kinds.prefixes.Address.TheVariants.{Ipv4, Ipv6}
use Rattle.type_data.specs.declared.kinds.prefixes.Prefix.{Prefix}

-- ---- the parts of a text

abbrev CutLastOrMissing : ℕ → List ℕ → Type 0
CutLastOrMissing c text = ((front : List ℕ) × ((back : List ℕ) × IsCutLast c text front back)) ⊎ IsMissing c text

cut_last_by : (c d : ℕ) (text : List ℕ) → (d ≡ c) ⊎ (d ≢ c) → CutLastOrMissing c text → CutLastOrMissing c (d ∷ text)
cut_last_by c d text first (inl (front, (back, cut))) = inl (d ∷ front, (back, record { parts = ap (λ (l : List ℕ). d ∷ l) cut.parts; missing = cut.missing }))
cut_last_by c d text (inl same) (inr missing) = inl ([], (text, record { parts = ap (λ (x : ℕ). x ∷ text) same; missing = missing }))
cut_last_by c d text (inr other) (inr missing) = inr (other, missing)

cut_last : (c : ℕ) (text : List ℕ) → CutLastOrMissing c text
cut_last c [] = inr tt
cut_last c (d ∷ text) = cut_last_by c d text (cases_eq d c) (cut_last c text)

record Unmarked (text : List ℕ) : Type 0 where
  negated : Bool
  rest : List ℕ
  after : IsAfterMark text negated rest

unmarked_by : (c : ℕ) (text : List ℕ) → (c ≡ 33) ⊎ (c ≢ 33) → Unmarked (c ∷ text)
unmarked_by c text (inl same) = record { negated = true; rest = text; after = record { parts = ap (λ (d : ℕ). d ∷ text) same; first = λ e. absurd (false≢true (sym e)) } }
unmarked_by c text (inr other) = record { negated = false; rest = c ∷ text; after = record { parts = refl; first = λ e begins. other begins } }

unmarked : (text : List ℕ) → Unmarked text
unmarked [] = record { negated = false; rest = []; after = record { parts = refl; first = λ e begins. begins } }
unmarked (c ∷ text) = unmarked_by c text (cases_eq c 33)

-- ---- the address and the length

-- a family of neither kind
other_family : (family text : List ℕ) (n : ℕ) → IsDecimal family n → n ≢ 1 → n ≢ 2 → NothingIs (IsOwnAddress family text)
other_family family text n is first second (Ipv4 x) own = first (is.value ∙ sym own.0.value)
other_family family text n is first second (Ipv6 x) own = second (is.value ∙ sym own.0.value)

no_ipv4_own : (family text : List ℕ) (n : ℕ) → IsDecimal family n → n ≡ 1 → NothingIs (IsIpv4Address text) → NothingIs (IsOwnAddress family text)
no_ipv4_own family text n is one none (Ipv4 x) own = none x own.1
no_ipv4_own family text n is one none (Ipv6 x) own = omega (arith, is.value, own.0.value, one)

no_ipv6_own : (family text : List ℕ) (n : ℕ) → IsDecimal family n → n ≡ 2 → NothingIs (IsIpv6Address text) → NothingIs (IsOwnAddress family text)
no_ipv6_own family text n is two none (Ipv4 x) own = omega (arith, is.value, own.0.value, two)
no_ipv6_own family text n is two none (Ipv6 x) own = none x own.1

own_by : (family text : List ℕ) (n : ℕ) → IsDecimal family n → (n ≡ 1) ⊎ (n ≢ 1) → (n ≡ 2) ⊎ (n ≢ 2) → Choice (IsIpv4Address text) → Choice (IsIpv6Address text) → Choice (IsOwnAddress family text)
own_by family text n is (inl one) second (inl four) six = inl (Ipv4 four.0, (subst (IsDecimal family) one is, four.1))
own_by family text n is (inl one) second (inr none) six = inr (no_ipv4_own family text n is one none)
own_by family text n is (inr other) (inl two) four (inl six) = inl (Ipv6 six.0, (subst (IsDecimal family) two is, six.1))
own_by family text n is (inr other) (inl two) four (inr none) = inr (no_ipv6_own family text n is two none)
own_by family text n is (inr other) (inr another) four six = inr (other_family family text n is other another)

own_or_not : (family text : List ℕ) → Choice (IsOwnAddress family text)
own_or_not family text = elim (decimal_or_not family) [
  | inr none ↦ inr (λ a own. none (family_of a) own.0)
  | inl found ↦ own_by family text found.0 found.1 (cases_eq found.0 1) (cases_eq found.0 2) (ipv4_or_not text) (ipv6_or_not text)
]

bits_by : (text : List ℕ) (a : Address) (n : ℕ) → IsDecimal text n → (8 * length (octets_of a) < n) ⊎ (n ≤ 8 * length (octets_of a)) → Choice (AreOwnBits text a)
bits_by text a n is (inl over) = inr (λ m own. let same : m ≡ n = own.0.value ∙ sym is.value in omega (arith, own.1))
bits_by text a n is (inr few) = inl (n, (is, few))

bits_or_not : (text : List ℕ) (a : Address) → Choice (AreOwnBits text a)
bits_or_not text a = elim (decimal_or_not text) [
  | inr none ↦ inr (λ n own. none n own.0)
  | inl found ↦ bits_by text a found.0 found.1 (cases_lt (8 * length (octets_of a)) found.0)
]

-- ---- a prefix

prefix_by : (text marked front family address len : List ℕ) (negated : Bool) → IsCutLast 47 text marked len → IsAfterMark marked negated front → IsCutFirst 58 front family address → (own : (a : Address) × IsOwnAddress family address a) → Choice (AreOwnBits len own.0) → Choice (SpellsPrefix text)
prefix_by text marked front family address len negated cut after first own (inr none) = inr (no_bits_of text marked front family address len negated own.0 cut after first own.1 none)
prefix_by text marked front family address len negated cut after first own (inl bits) =
    inl (
      record { negated = negated; address = own.0; bits = bits.0 },
      record {
        family = family;
        address = address;
        len = len;
        parts = cut.parts ∙ ap (λ (l : List ℕ). l ++ 47 ∷ len) (after.parts ∙ ap (λ (l : List ℕ). mark negated ++ l) first.parts);
        number = own.1.0;
        is = own.1.1;
        bits = bits.1.0;
        few = bits.1.1;
      },
    )

prefix_or_not : (text : List ℕ) → Choice (SpellsPrefix text)
prefix_or_not text = elim (cut_last 47 text) [
  | inr missing ↦ inr (no_length text missing)
  | inl cut ↦
      let u = unmarked cut.0 in
      elim (cut_or_missing 58 u.rest) [
        | inr missing ↦ inr (no_family text cut.0 u.rest cut.1.0 u.negated cut.1.1 u.after missing)
        | inl first ↦ elim (own_or_not first.0 first.1.0) [
          | inr none ↦ inr (no_address text cut.0 u.rest first.0 first.1.0 cut.1.0 u.negated cut.1.1 u.after first.1.1 none)
          | inl own ↦ prefix_by text cut.0 u.rest first.0 first.1.0 cut.1.0 u.negated cut.1.1 u.after first.1.1 own (bits_or_not cut.1.0 own.0)
        ]
      ]
]

prefix_octets : (p : Prefix) → (octets : List ℕ) × IsPrefixOctets p octets
prefix_octets p =
    let octets = octets_of p.address in
    let t = trimmed octets in
    let n : ℕ = sign p.negated + t.len in
    let family = to_be_bytes w16 (family_of p.address) in
    let done = prefix_appended p octets t.len n [] family (family ++ p.bits ∷ n ∷ []) ((family ++ p.bits ∷ n ∷ []) ++ take t.len octets) refl t.few t.last t.after refl refl refl refl in
    (done.octets, done.stated)

item_by : (text : List ℕ) → Choice (SpellsPrefix text) → Choice (StatesPrefix (bare text))
item_by text (inr none) = inr (λ octets is. none is.0 is.1.0)
item_by text (inl found) = let all = prefix_octets found.0 in inl (all.0, (found.0, (found.1, all.1)))

item_or_not : (item : RawItem) → Choice (StatesPrefix item)
item_or_not (bare text) = item_by text (prefix_or_not text)
item_or_not (quoted text) = inr (λ octets is. is)

prefixes_or_not : (items : List RawItem) → Choice (StatesPrefixes items)
prefixes_or_not [] = inl ([], refl)
prefixes_or_not (item ∷ items) = choice_both {P = StatesPrefix item} {Q = StatesPrefixes items} {R = StatesPrefixes (item ∷ items)} (λ front back. front ++ back) (λ front back p q. (front, back, (p, (q, refl)))) (λ octets is. ((is.0, is.2.0), (is.1, is.2.1.0))) (item_or_not item) (prefixes_or_not items)

pub prefixes_decided : (items : List RawItem) → EitherIs (StatesPrefixes items) (FailsPrefixes items)
prefixes_decided items = by_own NoPrefix (StatesPrefixes items) (prefixes_or_not items)
