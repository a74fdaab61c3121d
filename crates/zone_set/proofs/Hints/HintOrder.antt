-- The hint has the order of records as far as it tells them apart.
use Rattle.zone_set.proofs.Common.{AllByRecursion, AllByRecursion-front, Equal, Greater, IsHint, IsLabel, IsName, IsWithin, Less, List, Ordering, Record, [], after, ap, ap₂, arith, before, canonical_cmp, data_cmp, data_of, eq-eqb, first_digits, if◌then◌else◌, name_cmp, name_cmp-exact, name_cmp-total, nat_cmp, nat_cmp_total, ne_eqb, ordering_reverse, ordering_then, owner_key, refl, soa, subst, sym, then_assoc, tied_itself, within, ℕ, ◌+◌, ◌++◌, ◌<◌, ◌==◌, ◌^◌, ◌∙◌, ◌≡◌, ◌≢◌, ◌⊎◌}
use Rattle.zone_set.proofs.Hints.Digits.{first_digits-bound, first_digits-less}
use Rattle.zone_set.proofs.Hints.LabelKey.{owner_low, owners_less}
use Rattle.zone_set.proofs.Ordering.Within.{below_after, same_ending, within_between}

-- an owner that is neither below the base nor before it
pub hint_after : (base owner : List (List ℕ)) (kind : ℕ) (o : Ordering) → kind ≢ 6 → (IsWithin owner base → ⊥) → name_cmp owner base ≡ o → (o ≡ Equal) ⊎ (o ≡ Greater) → IsHint base owner kind (2 + 2 ^ 63)
hint_after base owner kind o other out is apart = grind (arith, name_cmp-exact, after, name_cmp-total, ordering_reverse)

less_through : (a b c : List (List ℕ)) → name_cmp a b ≡ Less → name_cmp b c ≢ Greater → name_cmp a c ≡ Less
less_through a b c low high = grind (arith, name_cmp-total)

rank_apart : (k l : ℕ) (o : Ordering) → k ≡ 6 → l ≢ 6 → ordering_then (nat_cmp (if k == 6 then 0 else 1) (if l == 6 then 0 else 1)) o ≡ Less
rank_apart k l o is other = rw (eq-eqb k 6 is, ne_eqb l 6 other)

rank_same : (k l : ℕ) (o : Ordering) → k ≢ 6 → l ≢ 6 → o ≡ Less → ordering_then (nat_cmp (if k == 6 then 0 else 1) (if l == 6 then 0 else 1)) o ≡ Less
rank_same k l o one other less = rw (ne_eqb k 6 one, ne_eqb l 6 other) less

module _ (base : List (List ℕ)) where
  low : (front : List (List ℕ)) → first_digits 9 (owner_key front) < 128 ^ 9
  low front = first_digits-bound 9 (owner_key front) (owner_low front)

  labels : (x front : List (List ℕ)) → IsName x → x ≡ front ++ base → AllByRecursion IsLabel front
  labels x front name is = AllByRecursion-front IsLabel front base (subst (AllByRecursion IsLabel) is name.each)

  -- what is below the base is before what is after it and not below it
  below_before : (x y front : List (List ℕ)) → x ≡ front ++ base → (IsWithin y base → ⊥) → name_cmp base y ≡ Less → name_cmp x y ≡ Less
  below_before x y front is out later = grind (arith, name_cmp-exact x y, name_cmp-total.antisymm y x, within_between base base y x ([], refl) (front, is))

  -- owners of smaller hints are before others
  hint_less : (x y : List (List ℕ)) (k l h i : ℕ) → IsName x → IsName y → IsHint base x k h → IsHint base y l i → h < i → ordering_then (nat_cmp (if k == 6 then 0 else 1) (if l == 6 then 0 else 1)) (name_cmp x y) ≡ Less
  hint_less x y k l h i px py one (soa f at) lt = absurd (omega (arith, at, lt))
  hint_less x y k l h i px py (soa e is) (before f w at) lt = rank_apart k l _ e f
  hint_less x y k l h i px py (soa e is) (within g f w at) lt = rank_apart k l _ e f
  hint_less x y k l h i px py (soa e is) (after f w v at) lt = rank_apart k l _ e f
  hint_less x y k l h i px py (before e u is) (within g f w at) lt = rank_same k l _ e f (subst (λ z. name_cmp x z ≡ Less) (sym w) (less_through x base (g ++ base) u (below_after base g)))
  hint_less x y k l h i px py (before e u is) (after f w v at) lt = rank_same k l _ e f (name_cmp-total.trans x base y u v)
  hint_less x y k l h i px py (within g e u is) (within j f w at) lt =
      let keys = first_digits-less 9 (owner_key g) (owner_key j) (owner_low g) (owner_low j) (omega (arith, is, at, lt)) in
      rank_same k l _ e f (ap₂ name_cmp u w ∙ same_ending base g j ∙ owners_less g j (labels x g px u) (labels y j py w) keys)
  hint_less x y k l h i px py (within g e u is) (after f w v at) lt = rank_same k l _ e f (below_before x y g u w v)
  hint_less x y k l h i px py (before e u is) (before f w at) lt = absurd (omega (arith, is, at, lt))
  hint_less x y k l h i px py (within g e u is) (before f w at) lt = absurd (omega (arith, is, at, lt))
  hint_less x y k l h i px py (after e u v is) (before f w at) lt = absurd (omega (arith, is, at, lt))
  hint_less x y k l h i px py (after e u v is) (within g f w at) lt = absurd (omega (arith, is, at, lt, low g))
  hint_less x y k l h i px py (after e u v is) (after f w z at) lt = absurd (omega (arith, is, at, lt))

  -- an owner and a type have one hint
  pub one_hint : (x : List (List ℕ)) (k h i : ℕ) → IsName x → IsHint base x k h → IsHint base x k i → h ≡ i
  one_hint x k h i name one other =
      let tied = ap₂ ordering_then (tied_itself nat_cmp_total (if k == 6 then 0 else 1)) (tied_itself name_cmp-total x) in
      let no_less : h < i → ⊥ = λ lt. let no : Equal ≡ Less = sym tied ∙ hint_less x x k k h i name name one other lt in cc in
      let no_more : i < h → ⊥ = λ lt. let no : Equal ≡ Less = sym tied ∙ hint_less x x k k i h name name other one lt in cc in
      omega (arith, no_less, no_more)

  -- a record of a smaller hint is before the other
  pub hint_orders : (r s : Record) (h i : ℕ) → IsName r.owner → IsName s.owner → IsHint base r.owner r.kind h → IsHint base s.owner s.kind i → h < i → canonical_cmp r s ≡ Less
  hint_orders r s h i pr ps one other lt = sym (then_assoc (nat_cmp (if r.kind == 6 then 0 else 1) (if s.kind == 6 then 0 else 1)) (name_cmp r.owner s.owner) (data_cmp (data_of r) (data_of s))) ∙ ap (λ o. ordering_then o (data_cmp (data_of r) (data_of s))) (hint_less r.owner s.owner r.kind s.kind h i pr ps one other lt)
