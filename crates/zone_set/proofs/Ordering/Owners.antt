-- Owners whose first labels tell how they lie.
use Rattle.zone_set.proofs.Common.{append_assoc, drop, flat_map, length, length-take-le, refl, suc, take, wire, zero, ◌*◌, ◌≤◌, arith, AreFirst, Equal, Greater, IsFirst, Less, List, [], ap, ap₂, map, label_cmp, name_cmp, name_cmp-total, nat_cmp, nil_from_length, ordering_reverse, Ordering, ordering_then, reverse, reverse-append, slice_cmp, subst, sym, take-append-drop, then_equal, ℕ, ◌∙◌, ◌∷◌, ◌++◌, ◌≡◌, ◌≢◌}
use Rattle.zone_name.proofs.InOctets.Octets.{labels_of-cons, labels_of-open}
pub use Rattle.zone_name.proofs.InOctets.Octets.{root_label}
use Rattle.std.proofs.Math.Seq.{drop-append_seam, take-append_seam}
use Rattle.zone_name.specs.Common.{each_after}
use Rattle.zone_name.specs.Name.{labels_of, with_length}
use Rattle.zone_set.proofs.Ordering.Within.{same_ending}
use Rattle.zone_set.specs.Machine.Owner.{IsAfterLabels, IsEndOf, IsLabelBefore}

-- the first label, and those that follow it
pub labels_of-first : (octets label rest : List ℕ) → IsFirst octets label rest → labels_of octets ≡ label ∷ labels_of rest
labels_of-first octets label rest first = grind (arith, labels_of-cons)

-- there is none where no octet is, nor at the root
pub none_of_empty : (octets : List ℕ) → length octets ≡ 0 → labels_of octets ≡ []
none_of_empty octets none = ap labels_of (nil_from_length octets none) ∙ labels_of-open [] tt

pub ruleset without_labels = (none_of_empty, root_label)

-- the same labels follow both, so the first tell the order
pub order_of_first : (a b label other : List ℕ) → AreFirst a b label other → slice_cmp nat_cmp label other ≡ name_cmp (labels_of a) (labels_of b)
order_of_first a b label other both =
    let left = labels_of-first a label both.rest both.first in
    let right = labels_of-first b other both.rest both.second in
    sym (ap₂ name_cmp left right ∙ same_ending (labels_of both.rest) (label ∷ []) (other ∷ []) ∙ then_equal (label_cmp label other))

-- one label stands before those of the first
pub order_of_child : (a b label : List ℕ) → IsFirst b label a → name_cmp (labels_of a) (labels_of b) ≡ Less
order_of_child a b label first = ap (name_cmp (labels_of a)) (labels_of-first b label a first) ∙ same_ending (labels_of a) [] (label ∷ [])

-- and before those of the second
pub order_of_parent : (a b label : List ℕ) → IsFirst a label b → name_cmp (labels_of a) (labels_of b) ≡ Greater
order_of_parent a b label first = name_cmp-total.antisymm (labels_of a) (labels_of b) ∙ ap ordering_reverse (order_of_child b a label first)

-- ---- labels before those that end both

pub label_after : (name left label rest : List ℕ) → IsAfterLabels name left → IsFirst left label rest → IsLabelBefore name label rest
label_after name left label rest after first = record {
  front = after.front;
  parts = after.parts ∙ ap (λ ls. after.front ++ ls) (labels_of-first left label rest first);
}

pub label_more : (name label rest next after : List ℕ) → IsLabelBefore name label rest → IsFirst rest next after → IsLabelBefore name next after
label_more name label rest next after had first = record {
  front = had.front ++ label ∷ [];
  parts = had.parts ∙ ap (λ ls. had.front ++ label ∷ ls) (labels_of-first rest next after first) ∙ sym (append_assoc had.front (label ∷ []) (next ∷ labels_of after));
}

then_unequal : (o p : Ordering) → o ≢ Equal → ordering_then o p ≡ o
then_unequal o p other = grind arith

order_before : (f g e : List (List ℕ)) (x y : List ℕ) → label_cmp x y ≢ Equal → name_cmp (f ++ x ∷ e) (g ++ y ∷ e) ≡ label_cmp x y
order_before f g e x y other =
    ap₂ name_cmp (sym (append_assoc f (x ∷ []) e)) (sym (append_assoc g (y ∷ []) e))
    ∙ same_ending e (f ++ x ∷ []) (g ++ y ∷ [])
    ∙ ap₂ (slice_cmp label_cmp) (reverse-append f (x ∷ [])) (reverse-append g (y ∷ []))
    ∙ then_unequal (label_cmp x y) (slice_cmp label_cmp (reverse f) (reverse g)) other

-- the same octets follow two labels that differ, so these tell the order
pub order_of_before : (a b label other rest : List ℕ) → IsLabelBefore a label rest → IsLabelBefore b other rest → slice_cmp nat_cmp label other ≢ Equal → slice_cmp nat_cmp label other ≡ name_cmp (labels_of a) (labels_of b)
order_of_before a b label other rest left right differ =
    sym (ap₂ name_cmp left.parts right.parts ∙ order_before left.front right.front (labels_of rest) label other differ)

-- ---- the labels that end a name

-- a label at the front of a name's octets is its first, and those of the others follow
pub first_of_wire : (octets label rest : List ℕ) (labels : List (List ℕ)) → octets ≡ wire labels → IsFirst octets label rest
    → (more : List (List ℕ)) × (labels ≡ label ∷ more) × (rest ≡ wire more)
first_of_wire octets label rest [] is first = absurd (grind (arith, first.is, first.some))
first_of_wire octets label rest (l ∷ more) is first =
    let same : first.len ∷ first.after ≡ length l ∷ (l ++ wire more) = sym first.is ∙ is ∙ ap (λ o. length l ∷ o) (append_assoc l (flat_map with_length more) (0 ∷ [])) in
    let len : first.len ≡ length l = cc same in
    let after : first.after ≡ l ++ wire more = cc same in
    (more, ap (λ x. x ∷ more) (sym (first.first ∙ ap₂ take len after ∙ take-append_seam l (wire more))), first.follows ∙ ap₂ drop len after ∙ drop-append_seam l (wire more))

-- a name ends with all of its labels
pub end_whole : (name : List (List ℕ)) (octets : List ℕ) → octets ≡ wire name → IsEndOf name octets
end_whole name octets is = record { front = []; last = name; parts = refl; is = is }

-- with those that end its end
pub end_more : (name : List (List ℕ)) (octets rest : List ℕ) → IsEndOf name octets → ((labels : List (List ℕ)) → octets ≡ wire labels → IsEndOf labels rest) → IsEndOf name rest
end_more name octets rest end more =
    let next = more end.last end.is in
    record {
      front = end.front ++ next.front;
      last = next.last;
      parts = end.parts ∙ ap (λ ls. end.front ++ ls) next.parts ∙ sym (append_assoc end.front next.front next.last);
      is = next.is;
    }

-- and with those after the first
pub end_first : (octets label rest : List ℕ) → IsFirst octets label rest → (labels : List (List ℕ)) → octets ≡ wire labels → IsEndOf labels rest
end_first octets label rest first labels is =
    let cut = first_of_wire octets label rest labels is first in
    record { front = label ∷ []; last = cut.0; parts = cut.1; is = cut.2 }

pub one_octet : (len c : ℕ) (rest : List ℕ) → len ≡ 1 → IsFirst (len ∷ (c ∷ rest)) (c ∷ []) rest
one_octet len c rest one = record {
  len = len;
  after = c ∷ rest;
  is = refl;
  some = omega (arith, one);
  first = ap (λ n. take n (c ∷ rest)) (sym one);
  follows = ap (λ n. drop n (c ∷ rest)) (sym one);
}

-- and with those after as many of one octet each
end_ones : (others octets rest : List ℕ) → octets ≡ each_after 1 others ++ rest → (labels : List (List ℕ)) → octets ≡ wire labels → IsEndOf labels rest
end_ones [] octets rest begins labels is = end_whole labels rest (sym begins ∙ is)
end_ones (c ∷ others) octets rest begins labels is =
    let after = each_after 1 others ++ rest in
    end_more labels after rest (end_first octets (c ∷ []) after (subst (λ o. IsFirst o (c ∷ []) after) (sym begins) (one_octet 1 c after refl)) labels is) (end_ones others after rest refl)

after_ones : (others rest : List ℕ) → labels_of (each_after 1 others ++ rest) ≡ map (λ c. c ∷ []) others ++ labels_of rest
after_ones [] rest = refl
after_ones (c ∷ others) rest =
    let after = each_after 1 others ++ rest in
    labels_of-first (1 ∷ (c ∷ after)) (c ∷ []) after (one_octet 1 c after refl) ∙ ap (λ ls. (c ∷ []) ∷ ls) (after_ones others rest)

pub length_ones : (others : List ℕ) → length (each_after 1 others) ≡ 2 * length others
length_ones [] = refl
length_ones (c ∷ others) = let same : length (each_after 1 (c ∷ others)) ≡ suc (suc (length (each_after 1 others))) = refl in omega (arith, same, length_ones others)

-- fewer of these
fewer_ones : (k : ℕ) (others octets rest : List ℕ) → k ≤ length others → octets ≡ each_after 1 others ++ rest → (few : List ℕ) × (octets ≡ each_after 1 few ++ drop (2 * k) octets)
fewer_ones zero others octets rest within begins = ([], refl)
fewer_ones (suc k) [] octets rest within begins = absurd (omega (arith, within))
fewer_ones (suc k) (c ∷ others) octets rest within begins =
    let after = each_after 1 others ++ rest in
    let less = fewer_ones k others after rest (omega (arith, within)) refl in
    let two : 2 * suc k ≡ suc (suc (2 * k)) = omega arith in
    let same : drop (2 * suc k) octets ≡ drop (2 * k) after = ap₂ drop two begins in
    (c ∷ less.0, begins ∙ ap (λ t. 1 ∷ (c ∷ t)) (less.1 ∙ ap (λ t. each_after 1 less.0 ++ t) (sym same)))

-- of the first eight
module _ (octets : List ℕ) (ones : (others : List ℕ) × (take 16 octets ≡ each_after 1 others)) (k : ℕ) (few : k ≤ 8) (long : 16 ≤ length octets) where
  begins_ones : octets ≡ each_after 1 ones.0 ++ drop 16 octets
  begins_ones = sym (take-append-drop 16 octets) ∙ ap (λ t. t ++ drop 16 octets) ones.1

  cut_ones : (others : List ℕ) × (octets ≡ each_after 1 others ++ drop (2 * k) octets)
  cut_ones =
      let eight : 16 ≡ 2 * length ones.0 = sym (length-take-le 16 octets long) ∙ ap length ones.1 ∙ length_ones ones.0 in
      fewer_ones k ones.0 octets (drop 16 octets) (omega (arith, few, eight)) begins_ones

  pub end_few : (labels : List (List ℕ)) → octets ≡ wire labels → IsEndOf labels (drop (2 * k) octets)
  end_few = end_ones cut_ones.0 octets (drop (2 * k) octets) cut_ones.1

  pub after_few : IsAfterLabels octets (drop (2 * k) octets)
  after_few = record { front = map (λ c. c ∷ []) cut_ones.0; parts = ap labels_of cut_ones.1 ∙ after_ones cut_ones.0 (drop (2 * k) octets) }

-- labels after those that come first
pub after_none : (name : List ℕ) → IsAfterLabels name name
after_none name = record { front = []; parts = refl }

pub after_more : (name left rest : List ℕ) → IsAfterLabels name left → IsAfterLabels left rest → IsAfterLabels name rest
after_more name left rest first next = record {
  front = first.front ++ next.front;
  parts = first.parts ∙ ap (λ ls. first.front ++ ls) next.parts ∙ sym (append_assoc first.front next.front (labels_of rest));
}
