-- A walk over the labels of an owner, until those that are left take no more octets than the base.
use Rattle.zone_set.proofs.Common.{map, append-nil, suc, zero, AllByRecursion, AllByRecursion-back, AllByRecursion-front, IsLabel, IsName, IsFirst, IsPutBefore, IsWithin, List, [], ap, append_assoc, arith, common_steps, first_digits, inl, inr, labels_of-wire, reverse, reverse-append, drop, length, length-take-le, owner_key, take, take-append-drop, refl, subst, sym, wire, ℕ, ⊎_elim, ◌*◌, ◌++◌, ◌+◌, ◌-◌, ◌<◌, ◌^◌, ◌∙◌, ◌∷◌, ◌≡◌, ◌≤◌, ◌⊎◌}
use lib.ListN.{length-append}
use Rattle.zone_name.specs.Common.{each_after}
use Rattle.zone_set.proofs.Ordering.Owners.{first_of_wire, length_ones, one_octet}
use Rattle.zone_set.specs.Machine.Hint.{GathersOnes}
use Rattle.zone_set.specs.Machine.Owner.{IsEndOf}
use Rattle.zone_set.proofs.Hints.Digits.{first_digits-bound}
use Rattle.zone_set.proofs.Hints.LabelKey.{labels_key-append, labels_reverse, octets_enough, owner_low, owner_key-push}
use Rattle.zone_set.proofs.Hints.Own.{all_firsts, firsts, lowest_bits, nine_ones, nth}
use Rattle.zone_set.specs.Machine.LabelKey.{inner_digit, labels_key}
use Rattle.std.specs.Prelude.{bit_and}

length-wire : (label : List ℕ) (labels : List (List ℕ)) → length (wire (label ∷ labels)) ≡ length label + 1 + length (wire labels)
length-wire label labels = grind (arith, common_steps)

length-wire_append : (a b : List (List ℕ)) → length (wire (a ++ b)) + 1 ≡ length (wire a) + length (wire b)
length-wire_append [] b = omega arith
length-wire_append (label ∷ a) b = omega (arith, length-wire label (a ++ b), length-wire label a, length-wire_append a b)

wire_some : (labels : List (List ℕ)) → 0 < length (wire labels)
wire_some [] = omega arith
wire_some (label ∷ labels) = omega (arith, length-wire label labels)

-- labels that end with the base's and take no more octets are these
none_before : (left before base : List (List ℕ)) → left ≡ before ++ base → length (wire left) ≤ length (wire base) → left ≡ base
none_before left [] base is fits = is
none_before left (label ∷ before) base is fits =
    absurd (omega (arith, fits, ap (λ ls. length (wire ls)) is, length-wire_append (label ∷ before) base, length-wire label before, wire_some before))

wire_reverse : (labels : List (List ℕ)) → length (wire (reverse labels)) ≡ length (wire labels)
wire_reverse [] = refl
wire_reverse (label ∷ labels) =
    omega (arith, ap (λ ls. length (wire ls)) (reverse-append (label ∷ []) labels), length-wire_append (reverse labels) (label ∷ []), length-wire label [], length-wire label labels, wire_reverse labels)

-- labels that take twice as many octets or more have as many digits, if none is cut off
labels_enough : (n : ℕ) (labels : List (List ℕ)) (x y : List ℕ) → AllByRecursion IsLabel labels → 2 * n + 1 ≤ length (wire labels) → first_digits n (labels_key labels x) ≡ first_digits n (labels_key labels y)
labels_enough zero [] x y each long = refl
labels_enough (suc n) [] x y each long = absurd (omega (arith, long))
labels_enough n (label ∷ labels) x y each long =
    octets_enough n label (labels_key labels x) (labels_key labels y)
    (λ m is. labels_enough m labels x y each.1 (omega (arith, is, long, each.0.some, length-wire label labels)))

-- the labels whose octets are left; those that were passed over, where enough digits follow, and the
-- number of those that were gathered since
pub record IsWalked (base owner : List (List ℕ)) (octets : List ℕ) (key : ℕ) : Type 0 where
  pub passed : List (List ℕ)
  pub gathered : List (List ℕ)
  pub left : List (List ℕ)
  pub parts : owner ≡ passed ++ (gathered ++ left)
  pub is : octets ≡ wire left
  pub gathers : key ≡ first_digits 9 (owner_key gathered)
  pub enough : (passed ≡ []) ⊎ (length (wire base) + 18 ≤ length (wire (gathered ++ left)))
  pub within : IsWithin owner base → IsWithin left base

-- labels that take as many octets as the base, or more, end with the base's if all do
within_past : (base left front before : List (List ℕ)) → length (wire base) ≤ length (wire left) → front ++ left ≡ before ++ base → IsWithin left base
within_past base left [] before fits same = (before, same)
within_past base left (label ∷ front) [] fits same =
    absurd (omega (arith, fits, ap (λ ls. length (wire ls)) same, length-wire_append (label ∷ front) left, length-wire label front, wire_some front))
within_past base left (label ∷ front) (x ∷ before) fits same = within_past base left front before fits (cc same)

pub walked_start : (base owner : List (List ℕ)) (octets : List ℕ) → IsEndOf owner octets → (octets ≡ wire owner) ⊎ (length (wire base) + 18 ≤ length octets) → IsWalked base owner octets 0
walked_start base owner octets end (inl whole) = record {
  passed = [];
  gathered = [];
  left = owner;
  parts = refl;
  is = whole;
  gathers = refl;
  enough = inl refl;
  within = λ w. w;
}
walked_start base owner octets end (inr far) =
    let takes : length octets ≡ length (wire end.last) = ap length end.is in
    record {
      passed = end.front;
      gathered = [];
      left = end.last;
      parts = end.parts;
      is = end.is;
      gathers = refl;
      enough = inr (omega (arith, far, takes));
      within = λ w. within_past base end.last end.front w.0 (omega (arith, far, takes)) (sym end.parts ∙ w.1);
    }

start_none : (base owner : List (List ℕ)) (octets : List ℕ) (end : IsEndOf owner octets) (far : (octets ≡ wire owner) ⊎ (length (wire base) + 18 ≤ length octets))
    → (walked_start base owner octets end far).gathered ≡ []
unfolding walked_start
start_none base owner octets end (inl whole) = refl
start_none base owner octets end (inr far) = refl

-- labels that take more octets than the base are not the base's alone
within_rest : (base rest before : List (List ℕ)) (label : List ℕ) → length (wire base) < length (wire (label ∷ rest)) → label ∷ rest ≡ before ++ base → IsWithin rest base
within_rest base rest [] label more is = grind arith
within_rest base rest (x ∷ before) label more is = (before, cc is)

module _ (base owner : List (List ℕ)) (octets : List ℕ) (key : ℕ) (walked : IsWalked base owner octets key) (name : IsName owner) where
  gathered_each : AllByRecursion IsLabel (walked.gathered ++ walked.left)
  gathered_each = AllByRecursion-back IsLabel walked.passed (walked.gathered ++ walked.left) (subst (AllByRecursion IsLabel) walked.parts name.each)

  -- one more label is gathered
  walked_on : (label rest : List ℕ) (next : ℕ) → length (wire base) < length octets → IsFirst octets label rest → next ≡ first_digits 9 (owner_key (walked.gathered ++ label ∷ []))
      → IsWalked base owner rest next
  walked_on label rest next more first gathers =
      let cut = first_of_wire octets label rest walked.left walked.is first in
      let same : walked.gathered ++ walked.left ≡ (walked.gathered ++ label ∷ []) ++ cut.0 = ap (λ ls. walked.gathered ++ ls) cut.1 ∙ sym (append_assoc walked.gathered (label ∷ []) cut.0) in
      record {
        passed = walked.passed;
        gathered = walked.gathered ++ label ∷ [];
        left = cut.0;
        parts = walked.parts ∙ ap (λ ls. walked.passed ++ ls) same;
        is = cut.2;
        gathers = gathers;
        enough = subst (λ ls. (walked.passed ≡ []) ⊎ (length (wire base) + 18 ≤ length (wire ls))) same walked.enough;
        within = λ w. let before = walked.within w in within_rest base cut.0 before.0 label (omega (arith, more, ap length walked.is, ap (λ ls. length (wire ls)) cut.1)) (sym cut.1 ∙ before.1);
      }

  pub walked_next : (label rest : List ℕ) (next : ℕ) → length (wire base) < length octets → IsFirst octets label rest → IsPutBefore label key next → IsWalked base owner rest next
  walked_next label rest next more first put =
      walked_on label rest next more first (put (owner_key walked.gathered) (owner_low walked.gathered) walked.gathers ∙ ap (first_digits 9) (sym (owner_key-push walked.gathered label)))

  -- there is one more, as long as more octets are left than the base has
  pub walked_some : length (wire base) < length octets → ((label : List ℕ) (labels : List (List ℕ)) → 0 < length label → octets ≡ wire (label ∷ labels) → ⊥) → ⊥
  walked_some more none = by walked.left walked.is (AllByRecursion-back IsLabel walked.gathered walked.left gathered_each)
    where
      by : (left : List (List ℕ)) → octets ≡ wire left → AllByRecursion IsLabel left → ⊥
      by [] is each = omega (arith, more, ap length is, wire_some base)
      by (label ∷ labels) is each = none label labels each.0.some is

  -- the number takes nine digits
  pub walked_short : key < 2 ^ 63
  walked_short = let most = first_digits-bound 9 (owner_key walked.gathered) (owner_low walked.gathered) in omega (arith, most, walked.gathers)

  -- the first digits are those of all labels before the base
  gathers_all : walked.left ≡ base → key ≡ first_digits 9 (owner_key (walked.passed ++ walked.gathered))
  gathers_all ends = walked.gathers ∙ ⊎_elim all front walked.enough
    where
      all : walked.passed ≡ [] → first_digits 9 (owner_key walked.gathered) ≡ first_digits 9 (owner_key (walked.passed ++ walked.gathered))
      all none = ap (λ ls. first_digits 9 (owner_key (ls ++ walked.gathered))) (sym none)

      front : length (wire base) + 18 ≤ length (wire (walked.gathered ++ walked.left)) → first_digits 9 (owner_key walked.gathered) ≡ first_digits 9 (owner_key (walked.passed ++ walked.gathered))
      front far =
          let gathered = walked.gathered in
          let each = labels_reverse gathered (AllByRecursion-front IsLabel gathered walked.left gathered_each) in
          let long : 2 * 9 + 1 ≤ length (wire (reverse gathered)) = omega (arith, far, length-wire_append gathered walked.left, ap (λ ls. length (wire ls)) ends, wire_reverse gathered) in
          let more : owner_key (walked.passed ++ gathered) ≡ labels_key (reverse gathered) (owner_key walked.passed) = ap (λ ls. labels_key ls []) (reverse-append walked.passed gathered) ∙ labels_key-append (reverse gathered) (reverse walked.passed) [] in
          labels_enough 9 (reverse gathered) [] (owner_key walked.passed) each long ∙ ap (first_digits 9) (sym more)

  pub walked_found : IsName base → octets ≡ wire base → (front : List (List ℕ)) × (owner ≡ front ++ base) × (key ≡ first_digits 9 (owner_key front))
  walked_found base_name same =
      let ends : walked.left ≡ base = grind (arith, AllByRecursion-back, labels_of-wire, walked.is) in
      (walked.passed ++ walked.gathered, walked.parts ∙ ap (λ ls. walked.passed ++ (walked.gathered ++ ls)) ends ∙ sym (append_assoc walked.passed walked.gathered base), gathers_all ends)

  pub walked_none : length octets ≤ length (wire base) → (octets ≡ wire base → ⊥) → IsWithin owner base → ⊥
  walked_none fits apart within =
      let before = walked.within within in
      apart (walked.is ∙ ap wire (none_before walked.left before.0 base before.1 (omega (arith, fits, ap length walked.is))))

-- ---- labels of one octet each

-- nine of these
module _ (octets : List ℕ) (long : length octets ≡ 18) (ones : (others : List ℕ) × (take 16 octets ≡ each_after 1 others)) (last : nth octets 16 ≡ 1) where
  abbrev nine : List ℕ
  nine = nth octets 1 ∷ (nth octets 3 ∷ (nth octets 5 ∷ (nth octets 7 ∷ (nth octets 9 ∷ (nth octets 11 ∷ (nth octets 13 ∷ (nth octets 15 ∷ (nth octets 17 ∷ []))))))))

  begins : octets ≡ each_after 1 (firsts 8 (nth ones.0)) ++ drop 16 octets
  begins =
      let eight : length ones.0 ≡ 8 = omega (arith, sym (length-take-le 16 octets (omega (arith, long))) ∙ ap length ones.1 ∙ length_ones ones.0) in
      sym (take-append-drop 16 octets) ∙ ap (λ t. t ++ drop 16 octets) (ones.1 ∙ ap (each_after 1) (all_firsts 8 ones.0 eight))

  is_one : (k : ℕ) → nth octets k ≡ nth (each_after 1 (firsts 8 (nth ones.0)) ++ drop 16 octets) k
  is_one k = ap (λ l. nth l k) begins

  nine_begin : octets ≡ each_after 1 nine ++ []
  nine_begin =
      let whole : octets ≡ firsts 18 (nth octets) = all_firsts 18 octets long in
      whole ∙ (λ i. is_one 0 i ∷ (nth octets 1 ∷ (is_one 2 i ∷ (nth octets 3 ∷ (is_one 4 i ∷ (nth octets 5 ∷ (is_one 6 i ∷ (nth octets 7 ∷ (is_one 8 i ∷ (nth octets 9 ∷ (is_one 10 i ∷ (nth octets 11 ∷ (is_one 12 i ∷ (nth octets 13 ∷ (is_one 14 i ∷ (nth octets 15 ∷ (last i ∷ (nth octets 17 ∷ []))))))))))))))))))

  pub nine_gathered : (d : ℕ) → d ≡ first_digits 9 (map inner_digit (reverse nine)) → bit_and d lowest_bits ≡ 0 → GathersOnes octets 0 (d - lowest_bits) []
  nine_gathered d is none = record {
    others = nine;
    begins = nine_begin;
    digits = nine_ones (reverse nine) d refl is none;
    far = λ some. omega arith;
  }

-- and more octets follow these
pub gathered_before : (front octets rest : List ℕ) (near number : ℕ) → GathersOnes front 0 number [] → octets ≡ front ++ rest → near ≤ length rest → GathersOnes octets near number rest
gathered_before front octets rest near number ones is far = record {
  others = ones.others;
  begins = is ∙ ap (λ t. t ++ rest) (ones.begins ∙ append-nil (each_after 1 ones.others));
  digits = ones.digits;
  far = λ some. far;
}

pub none_gathered : (octets : List ℕ) (near : ℕ) → GathersOnes octets near 0 octets
none_gathered octets near = record { others = []; begins = refl; digits = refl; far = λ some. absurd (omega (arith, some)) }

-- as many of one octet each are gathered
walked_ones : (base owner : List (List ℕ)) (octets : List ℕ) (key : ℕ) (walked : IsWalked base owner octets key) → IsName owner → (others rest : List ℕ) (next : ℕ)
    → octets ≡ each_after 1 others ++ rest → (0 < length others → length (wire base) ≤ length rest) → next ≡ first_digits 9 (owner_key (walked.gathered ++ map (λ c. c ∷ []) others))
    → IsWalked base owner rest next
unfolding walked_on
walked_ones base owner octets key walked name [] rest next begins far digits =
    let same : next ≡ key = digits ∙ ap (λ ls. first_digits 9 (owner_key ls)) (append-nil walked.gathered) ∙ sym walked.gathers in
    rw (sym begins, same) walked
walked_ones base owner octets key walked name (c ∷ others) rest next begins far digits =
    let after = each_after 1 others ++ rest in
    let enough : length (wire base) ≤ length rest = far (omega arith) in
    let long : length octets ≡ suc (suc (length after)) = ap length begins in
    let first : IsFirst octets (c ∷ []) after = subst (λ o. IsFirst o (c ∷ []) after) (sym begins) (one_octet 1 c after refl) in
    let number = first_digits 9 (owner_key (walked.gathered ++ (c ∷ []) ∷ [])) in
    let step = walked_on base owner octets key walked name (c ∷ []) after number (omega (arith, long, enough, length-append (each_after 1 others) rest)) first refl in
    walked_ones base owner after number step name others rest next refl (λ some. enough)
    (digits ∙ ap (λ ls. first_digits 9 (owner_key ls)) (sym (append_assoc walked.gathered ((c ∷ []) ∷ []) (map (λ x. x ∷ []) others))))

pub walked_gathered : (base owner : List (List ℕ)) (octets rest : List ℕ) (near next : ℕ) → IsEndOf owner octets → (octets ≡ wire owner) ⊎ (length (wire base) + 18 ≤ length octets)
    → IsName owner → near ≡ length (wire base) → GathersOnes octets near next rest → IsWalked base owner rest next
walked_gathered base owner octets rest near next end far name is ones =
    walked_ones base owner octets 0 (walked_start base owner octets end far) name ones.others rest next ones.begins (λ some. omega (arith, is, ones.far some))
    (ones.digits ∙ ap (λ ls. first_digits 9 (owner_key (ls ++ map (λ c. c ∷ []) ones.others))) (sym (start_none base owner octets end far)))
