-- Pairs of hexadecimal digits parted by hyphens, read one after the other.
use Rattle.hex.proofs.HexLemmas.{decode_sized-twice}
use Rattle.hex.specs.Hex.{decode_of}
use Rattle.std.specs.Prelude.{Ok}
use Rattle.type_data.proofs.Common.{AllZip, AppendsStated, List, [], ap, append_assoc, arith, decode_of-ok, decode_sized-ok, join_with_byte, length, length-append, refl, subst, sym, ℕ, ◌*◌, ◌++◌, ◌+◌, ◌<◌, ◌∙◌, ◌∷◌, ◌≡◌}
use Rattle.zone_rdata.proofs.Octets.Sent.{append_same}
use Rattle.zone_rdata.specs.Appended.{Appends}
use Rattle.type_data.specs.Kinds.Eui.{IsPair, StatesEui}
use Rattle.type_data.specs.Kinds.Eui.Machine.{AppendsPair, BeginsWithPair, IsCutPair}

pub pair_length : (text : List ℕ) (octet : ℕ) → IsPair text octet → length text ≡ 2
pair_length text octet is = decode_sized-ok text 1 (octet ∷ []) is

pub one_pair : (text : List ℕ) (a b : ℕ) → IsPair text a → IsPair text b → a ≡ b
one_pair text a b x y = cc (sym x ∙ y)

-- two digits that are read are a pair, and others are none
pair_of : (text octets old new : List ℕ) → length text ≡ 2 → decode_of text ≡ Ok octets → new ≡ old ++ octets → AppendsPair text old new
pair_of text [] old new two is grown = absurd (omega (arith, two, (decode_of-ok text [] is).2))
pair_of text (c ∷ []) old new two is grown = record { octet = c; is = decode_sized-twice text 1 two ∙ is; written = grown }
pair_of text (c ∷ d ∷ more) old new two is grown = absurd (omega (arith, two, (decode_of-ok text (c ∷ d ∷ more) is).2))

pub pair_pushed : (text old new : List ℕ) → length text ≡ 2 → Appends (λ octets. decode_of text ≡ Ok octets) (λ octets. octets) old new → AppendsPair text old new
pair_pushed text old new two more = pair_of text more.value old new two more.stated more.written

pub no_pair : (text : List ℕ) → ((octets : List ℕ) → decode_of text ≡ Ok octets → ⊥) → (octet : ℕ) → IsPair text octet → ⊥
no_pair text none octet is = none (octet ∷ []) (sym (decode_sized-twice text 1 (pair_length text octet is)) ∙ is)

-- ---- texts of pairs

-- pairs parted by hyphens, one or more, and their octets
pub record ArePairs (text octets : List ℕ) : Type 0 where
  pub pairs : List (List ℕ)
  pub each : AllZip IsPair pairs octets
  pub parted : text ≡ join_with_byte 45 pairs
  pub some : 0 < length pairs

-- a pair alone
single : (text : List ℕ) (octet : ℕ) → IsPair text octet → ArePairs text (octet ∷ [])
single text octet is = record { pairs = text ∷ []; each = (is, tt); parted = refl; some = omega arith }

-- a pair before others
put_first : (text pair rest more : List ℕ) (octet : ℕ) (pairs : List (List ℕ)) → IsPair pair octet → text ≡ pair ++ 45 ∷ rest → AllZip IsPair pairs more → rest ≡ join_with_byte 45 pairs → 0 < length pairs → ArePairs text (octet ∷ more)
put_first text pair rest more octet [] is cut each parted some = absurd (omega arith)
put_first text pair rest more octet (p ∷ pairs) is cut each parted some = record {
  pairs = pair ∷ p ∷ pairs;
  each = (is, each);
  parted = cut ∙ ap (λ r. pair ++ 45 ∷ r) parted;
  some = omega arith;
}

after_pair : (pair p a b : List ℕ) (octet n : ℕ) → IsPair pair octet → IsPair p n → pair ++ 45 ∷ a ≡ p ++ 45 ∷ b → (octet ≡ n) × (a ≡ b)
after_pair pair p a b octet n is other same =
    let parts = append_same pair p (45 ∷ a) (45 ∷ b) (omega (arith, pair_length pair octet is, pair_length p n other)) same in
    (one_pair pair octet n is (rw (sym parts.0) at other), cc parts.1)

-- what is left of octets, after the first
pub record HasFirst (octet : ℕ) (rest whole : List ℕ) : Type 0 where
  pub more : List ℕ
  pub are : ArePairs rest more
  pub parted : whole ≡ octet ∷ more

take_first : (text pair rest whole : List ℕ) (octet : ℕ) (pairs : List (List ℕ)) → IsPair pair octet → text ≡ pair ++ 45 ∷ rest → AllZip IsPair pairs whole → text ≡ join_with_byte 45 pairs → 0 < length pairs → HasFirst octet rest whole
take_first text pair rest whole octet [] is cut each parted some = absurd (omega arith)
take_first text pair rest [] octet (p ∷ pairs) is cut each parted some = absurd each
take_first text pair rest (n ∷ []) octet (p ∷ []) is cut each parted some =
    absurd (omega (arith, pair_length p n each.0, pair_length pair octet is, ap length (sym parted ∙ cut), length-append pair (45 ∷ rest)))
take_first text pair rest (n ∷ m ∷ whole) octet (p ∷ []) is cut each parted some = absurd each.1
take_first text pair rest (n ∷ []) octet (p ∷ q ∷ pairs) is cut each parted some = absurd each.1
take_first text pair rest (n ∷ m ∷ whole) octet (p ∷ q ∷ pairs) is cut each parted some =
    let same = after_pair pair p rest (join_with_byte 45 (q ∷ pairs)) octet n is each.0 (sym cut ∙ parted) in
    record {
      more = m ∷ whole;
      are = record { pairs = q ∷ pairs; each = each.1; parted = same.1; some = omega arith };
      parted = ap (λ o. o ∷ m ∷ whole) (sym same.0);
    }

-- what stands before the first hyphen is a pair
front_pair : (pair after rest whole : List ℕ) (pairs : List (List ℕ)) → length pair ≡ 2 → rest ≡ pair ++ 45 ∷ after → AllZip IsPair pairs whole → rest ≡ join_with_byte 45 pairs → 0 < length pairs → (octet : ℕ) × IsPair pair octet
front_pair pair after rest whole [] two cut each parted some = absurd (omega arith)
front_pair pair after rest [] (p ∷ pairs) two cut each parted some = absurd each
front_pair pair after rest (n ∷ whole) (p ∷ []) two cut each parted some =
    absurd (omega (arith, pair_length p n each.0, two, ap length (sym parted ∙ cut), length-append pair (45 ∷ after)))
front_pair pair after rest (n ∷ whole) (p ∷ q ∷ pairs) two cut each parted some =
    let parts = append_same pair p (45 ∷ after) (45 ∷ join_with_byte 45 (q ∷ pairs)) (omega (arith, two, pair_length p n each.0)) (sym cut ∙ parted) in
    (n, rw (sym parts.0) at each.0)

-- a text that isn't cut is a pair alone
pub take_last : (text whole : List ℕ) (pairs : List (List ℕ)) → (BeginsWithPair text → ⊥) → ((octet : ℕ) → IsPair text octet → ⊥) → AllZip IsPair pairs whole → text ≡ join_with_byte 45 pairs → 0 < length pairs → ⊥
take_last text whole [] uncut none each parted some = omega arith
take_last text [] (p ∷ pairs) uncut none each parted some = each
take_last text (n ∷ whole) (p ∷ []) uncut none each parted some = none n (rw (sym parted) at each.0)
take_last text (n ∷ whole) (p ∷ q ∷ pairs) uncut none each parted some =
    uncut (n, join_with_byte 45 (q ∷ pairs), record { pair = p; is = each.0; parted = parted })

-- three characters for each octet, but for the last hyphen
pairs_length : (pairs : List (List ℕ)) (octets : List ℕ) → AllZip IsPair pairs octets → 0 < length pairs → length (join_with_byte 45 pairs) + 1 ≡ 3 * length octets
pairs_length [] octets each some = absurd (omega arith)
pairs_length (p ∷ pairs) [] each some = absurd each
pairs_length (p ∷ []) (n ∷ []) each some = omega (arith, pair_length p n each.0)
pairs_length (p ∷ []) (n ∷ m ∷ octets) each some = absurd each.1
pairs_length (p ∷ q ∷ pairs) (n ∷ octets) each some =
    omega (arith, pair_length p n each.0, pairs_length (q ∷ pairs) octets each.1 (omega arith), length-append p (45 ∷ join_with_byte 45 (q ∷ pairs)))

some_pairs : (pairs : List (List ℕ)) (octets : List ℕ) → AllZip IsPair pairs octets → 0 < length octets → 0 < length pairs
some_pairs [] [] each some = some
some_pairs [] (n ∷ octets) each some = absurd each
some_pairs (p ∷ pairs) octets each some = omega arith

pub are_pairs : (count : ℕ) (text octets : List ℕ) → 0 < count → StatesEui count text octets → ArePairs text octets
are_pairs count text octets some is = record {
  pairs = is.pairs;
  each = is.each;
  parted = is.parted;
  some = some_pairs is.pairs octets is.each (omega (arith, is.counted));
}

pub eui_length : (count : ℕ) (text octets : List ℕ) → ArePairs text octets → length text + 1 ≡ 3 * length octets
eui_length count text octets are = omega (arith, ap length are.parted, pairs_length are.pairs octets are.each are.some)

-- ---- the loop

-- out holds what it had, and the octets of the pairs before the rest
pub record ReadsPairs (text rest old out : List ℕ) : Type 0 where
  pub octets : List ℕ
  pub grown : out ≡ old ++ octets
  pub goes : (more : List ℕ) → ArePairs rest more → ArePairs text (octets ++ more)
  pub comes : (whole : List ℕ) → ArePairs text whole → (more : List ℕ) × ArePairs rest more × (whole ≡ octets ++ more)

first_of : (rest after whole : List ℕ) (octet : ℕ) → IsCutPair rest octet after → ArePairs rest whole → HasFirst octet after whole
first_of rest after whole octet cut are = take_first rest cut.pair after whole octet are.pairs cut.is cut.parted are.each are.parted are.some

pub pairs_more : (text rest after old out next : List ℕ) (octet : ℕ) → ReadsPairs text rest old out → IsCutPair rest octet after → next ≡ out ++ octet ∷ [] → ReadsPairs text after old next
pairs_more text rest after old out next octet r cut pushed = record {
  octets = r.octets ++ octet ∷ [];
  grown = pushed ∙ ap (λ o. o ++ octet ∷ []) r.grown ∙ append_assoc old r.octets (octet ∷ []);
  goes = λ more are. subst (ArePairs text) (sym (append_assoc r.octets (octet ∷ []) more)) (r.goes (octet ∷ more) (put_first rest cut.pair after more octet are.pairs cut.is cut.parted are.each are.parted are.some));
  comes = λ whole are.
      let left = r.comes whole are in
      let first = first_of rest after left.0 octet cut left.1 in
      (first.more, first.are, left.2 ∙ ap (λ o. r.octets ++ o) first.parted ∙ sym (append_assoc r.octets (octet ∷ []) first.more));
}

pub pair_read : (text rest pair after old out next : List ℕ) → rest ≡ pair ++ 45 ∷ after → ReadsPairs text rest old out → AppendsPair pair out next → ReadsPairs text after old next
pair_read text rest pair after old out next cut r pushed =
    pairs_more text rest after old out next pushed.octet r (record { pair = pair; is = pushed.is; parted = cut }) pushed.written

pub pair_unread : (count : ℕ) (text rest pair after old out : List ℕ) → 0 < count → length pair ≡ 2 → rest ≡ pair ++ 45 ∷ after → ReadsPairs text rest old out → ((octet : ℕ) → IsPair pair octet → ⊥) → (octets : List ℕ) → StatesEui count text octets → ⊥
pair_unread count text rest pair after old out some two cut r none octets is =
    let left = r.comes octets (are_pairs count text octets some is) in
    let first = front_pair pair after rest left.0 left.1.pairs two cut left.1.each left.1.parted left.1.some in
    none first.0 first.1

pub last_unread : (count : ℕ) (text rest old out : List ℕ) → 0 < count → (BeginsWithPair rest → ⊥) → ReadsPairs text rest old out → ((octet : ℕ) → IsPair rest octet → ⊥) → (octets : List ℕ) → StatesEui count text octets → ⊥
last_unread count text rest old out some ends r none octets is =
    let left = r.comes octets (are_pairs count text octets some is) in
    take_last rest left.0 left.1.pairs ends none left.1.each left.1.parted left.1.some

pub pairs_end : (count : ℕ) (text rest old out next : List ℕ) (octet : ℕ) → length text + 1 ≡ 3 * count → ReadsPairs text rest old out → IsPair rest octet → next ≡ out ++ octet ∷ [] → AppendsStated (StatesEui count text) old next
pairs_end count text rest old out next octet len r is pushed =
    let are = r.goes (octet ∷ []) (single rest octet is) in record {
      octets = r.octets ++ octet ∷ [];
      stated = record { pairs = are.pairs; each = are.each; parted = are.parted; counted = omega (arith, len, eui_length count text (r.octets ++ octet ∷ []) are) };
      written = pushed ∙ ap (λ o. o ++ octet ∷ []) r.grown ∙ append_assoc old r.octets (octet ∷ []);
    }

-- ---- one list of octets

same_octets : (pairs others : List (List ℕ)) (a b : List ℕ) → AllZip IsPair pairs a → AllZip IsPair others b → 0 < length pairs → 0 < length others → join_with_byte 45 pairs ≡ join_with_byte 45 others → a ≡ b
same_octets [] others a b x y some one same = absurd (omega arith)
same_octets (p ∷ pairs) [] a b x y some one same = absurd (omega arith)
same_octets (p ∷ pairs) (q ∷ others) [] b x y some one same = absurd x
same_octets (p ∷ pairs) (q ∷ others) (n ∷ a) [] x y some one same = absurd y
same_octets (p ∷ []) (q ∷ []) (n ∷ []) (m ∷ []) x y some one same = rw (one_pair p n m x.0 (rw (sym same) at y.0)) refl
same_octets (p ∷ []) (q ∷ []) (n ∷ k ∷ a) b x y some one same = absurd x.1
same_octets (p ∷ []) (q ∷ []) (n ∷ []) (m ∷ k ∷ b) x y some one same = absurd y.1
same_octets (p ∷ []) (q ∷ r ∷ others) (n ∷ a) (m ∷ b) x y some one same =
    absurd (omega (arith, pair_length p n x.0, pair_length q m y.0, ap length same, length-append q (45 ∷ join_with_byte 45 (r ∷ others))))
same_octets (p ∷ r ∷ pairs) (q ∷ []) (n ∷ a) (m ∷ b) x y some one same =
    absurd (omega (arith, pair_length p n x.0, pair_length q m y.0, ap length same, length-append p (45 ∷ join_with_byte 45 (r ∷ pairs))))
same_octets (p ∷ r ∷ pairs) (q ∷ s ∷ others) (n ∷ a) (m ∷ b) x y some one same =
    let parts = after_pair p q (join_with_byte 45 (r ∷ pairs)) (join_with_byte 45 (s ∷ others)) n m x.0 y.0 same in
    rw (parts.0, same_octets (r ∷ pairs) (s ∷ others) a b x.1 y.1 (omega arith) (omega arith) parts.1) refl

pub eui_once : (count : ℕ) (text a b : List ℕ) → 0 < count → StatesEui count text a → StatesEui count text b → a ≡ b
eui_once count text a b some x y =
    let p = are_pairs count text a some x in
    let q = are_pairs count text b some y in
    same_octets p.pairs q.pairs a b p.each q.each p.some q.some (sym p.parted ∙ q.parted)
