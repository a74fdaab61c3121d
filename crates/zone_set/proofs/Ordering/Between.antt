-- A record between its neighbours, among records that stand together.
use Rattle.zone_set.proofs.Common.{AllByRecursion, AllByRecursion-back, AreCompatible, Ascends, Bool, Bor, Greater, Has, HasOtherTtl, IfSome, InOneSet, IsPartitionedBy, IsTrue, Less, List, MatchOption, None, Option, Ordering, OtherTtl, Record, Some, [], ap, append_assoc, arith, canonical_cmp, false, get_or, inl, inr, is_lt, length, map, map-append, nat_lt, nat_tests, option_copied, subst, suc, sym, true, zero, ⊎_elim, ℕ, ◌++◌, ◌<◌, ◌↔◌, ◌∙◌, ◌∷◌, ◌≡◌, ◌≢◌, ◌⊎◌}
use Rattle.zone_set.proofs.Ordering.SetOrder.{between_sets, canonical_total, exact_canonical}
use Rattle.zone_set.proofs.Storage.Storing.{all_with}
use Rattle.zone_set.proofs.Holding.Together.{each_Has, flipped, one_set, stable_number}

pub is_less : (o : Ordering) → is_lt o ≡ true → o ≡ Less
is_less o less = grind arith

-- what is not before is not after the other way round
pub not_after : (r s : Record) → is_lt (canonical_cmp s r) ≡ false → canonical_cmp r s ≢ Greater
not_after r s h after = grind (arith, canonical_total)

-- the records of elements in order, before a record and not before it
module _ {X : Type 0} (f : X → Record) (r : Record) where
  each_later : (e : X) (es : List X) (j : ℕ) (d : X) → j < length es → AllByRecursion (λ s. canonical_cmp (f e) s ≡ Less) (map f es) → canonical_cmp (f e) (f (get_or es j d)) ≡ Less
  each_later e [] j d lt later = absurd (omega (arith, lt))
  each_later e (x ∷ es) zero d lt later = later.0
  each_later e (x ∷ es) (suc j) d lt later = each_later e es j d (omega (arith, lt)) later.1

  pub parted : (es : List X) → Ascends (map f es) → IsPartitionedBy (λ e. is_lt (canonical_cmp (f e) r)) es
  parted [] ascend i j d le lt before = absurd (omega (arith, lt))
  parted (e ∷ es) ascend zero zero d le lt before = before
  parted (e ∷ es) ascend (suc i) zero d le lt before = absurd (omega (arith, le))
  parted (e ∷ es) ascend zero (suc j) d le lt before = grind (arith, canonical_total.trans (f e) (f (get_or es j d)) r, each_later e es j d, is_less)
  parted (e ∷ es) ascend (suc i) (suc j) d le lt before = parted es ascend.1 i j d (omega (arith, le)) (omega (arith, lt)) before

pub Has-append : (a b : List Record) (r : Record) → Has (a ++ b) r ↔ (Has a r ⊎ Has b r)
Has-append [] b r = grind arith
Has-append (x ∷ a) b r = grind (arith, Has-append a b r)

-- a record among others
pub Has-with : (a b : List Record) (r s : Record) → Has (a ++ r ∷ b) s ↔ ((s ≡ r) ⊎ Has (a ++ b) s)
Has-with a b r s = grind (arith, Has-append)

Ascends-with : (a b : List Record) (r : Record) → Ascends (a ++ b) → AllByRecursion (λ s. canonical_cmp s r ≡ Less) a → AllByRecursion (λ s. canonical_cmp r s ≡ Less) b → Ascends (a ++ r ∷ b)
Ascends-with [] b r ascend before after = (after, ascend)
Ascends-with (x ∷ a) b r ascend before after = (all_with (λ s. canonical_cmp x s ≡ Less) a b r ascend.0 before.0, Ascends-with a b r ascend.1 before.1 after)

pub Ascends-right : (a b : List Record) → Ascends (a ++ b) → Ascends b
Ascends-right [] b ascend = ascend
Ascends-right (x ∷ a) b ascend = Ascends-right a b ascend.1

pub before_all : (a b : List Record) (s t : Record) → Ascends (a ++ b) → Has a s → Has b t → canonical_cmp s t ≡ Less
before_all [] b s t ascend has_s has_t = absurd has_s
before_all (x ∷ a) b s t ascend has_s has_t = grind (arith, before_all a b s t, Has-append a b t, each_Has (λ y. canonical_cmp x y ≡ Less) (a ++ b) t)

pub later_all : (r x : Record) (others : List Record) → canonical_cmp r x ≡ Less → AllByRecursion (λ s. canonical_cmp x s ≡ Less) others → AllByRecursion (λ s. canonical_cmp r s ≡ Less) others
later_all r x [] less later = tt
later_all r x (s ∷ others) less later = grind (arith, later_all r x others, canonical_total.trans r x s)

-- records that stand together, and one with those before it and those that are not
pub record Parts (old before after : List Record) (r : Record) : Type 0 where
  pub compatible : AreCompatible old
  pub classes : (s : Record) → Has old s → s.class ≡ r.class
  pub whole : old ≡ before ++ after
  pub below : AllByRecursion (λ s. canonical_cmp s r ≡ Less) before
  pub above : AllByRecursion (λ s. canonical_cmp r s ≢ Greater) after

-- the same of a copy of what was lent
pub copied : {X : Type 0} (P : Type 0) (Q : X → Type 0) (lent : Option (Bor X)) (copy : Option X) → copy ≡ option_copied lent → MatchOption lent P (λ x. Q x.now) → MatchOption copy P Q
copied P Q lent copy is found = grind arith

module _ {X : Type 0} (P : X → Type 0) where
  pub last_has : (before : List X) → AllByRecursion P before → (last : Option X) → MatchOption last (before ≡ []) (λ e. (front : List X) × (before ≡ front ++ e ∷ [])) → IfSome last P
  last_has before each last none = grind (arith, AllByRecursion-back)

  pub first_has : (after : List X) → AllByRecursion P after → (first : Option X) → MatchOption first (after ≡ []) (λ e. (rest : List X) × (after ≡ e ∷ rest)) → IfSome first P
  first_has after each first none = grind arith

-- an element on one side of a record's place: where a record on that side is of the record's set, so is its own
pub record IsNeighbour {X : Type 0} (f : X → Record) (old : List Record) (side : List X) (r : Record) (e : X) : Type 0 where
  pub has : Has old (f e)
  pub nearest : (s : Record) → Has (map f side) s → InOneSet s r → InOneSet (f e) r

module _ {X : Type 0} (f : X → Record) {old : List Record} (before after : List X) {r : Record} (p : Parts old (map f before) (map f after) r) where
  has_side : (s : Record) → Has (map f before) s ⊎ Has (map f after) s → Has old s
  has_side s has = grind (arith, Has-append (map f before) (map f after) s, p.whole)

  ascend : Ascends (map f before ++ map f after)
  ascend = subst Ascends p.whole p.compatible.ascend

  -- a record of old that lies between the record and one of its set is of the set too
  near : (s t : Record) → Has old s → InOneSet s r → (canonical_cmp s t ≡ Less) × (canonical_cmp t r ≡ Less) ⊎ (canonical_cmp r t ≢ Greater) × (canonical_cmp t s ≡ Less) → InOneSet t r
  near s t has one (inl (low, high)) =
      let own : InOneSet s t = between_sets s t r (p.classes s has) one (λ no. cc) (λ no. cc) in
      record { owner = sym own.owner ∙ one.owner; kind = sym own.kind ∙ one.kind; covers = sym own.covers ∙ one.covers }
  near s t has one (inr (low, high)) = flipped (between_sets r t s (sym (p.classes s has)) (flipped one) low (λ no. cc))

  pub last_neighbour : (last : Option X) → MatchOption last (before ≡ []) (λ e. (front : List X) × (before ≡ front ++ e ∷ [])) → MatchOption last (before ≡ []) (IsNeighbour f old before r)
  last_neighbour None none = none
  last_neighbour (Some e) (front, whole) =
      let cut : map f before ≡ map f front ++ f e ∷ [] = ap (map f) whole ∙ map-append f front (e ∷ []) in
      let ordered : Ascends (map f front ++ (f e ∷ map f after)) = rw (cut, append_assoc) at ascend in
      let high : AllByRecursion (λ t. canonical_cmp t r ≡ Less) (map f front ++ f e ∷ []) = rw cut at p.below in
      record {
        has = grind (arith, has_side (f e), cut, Has-append (map f front) (f e ∷ []) (f e));
        nearest = λ s has one. grind (arith, has_side s, near s (f e), cut, Has-append (map f front) (f e ∷ []) s, before_all (map f front) (f e ∷ map f after) s (f e), AllByRecursion-back (λ t. canonical_cmp t r ≡ Less) (map f front) (f e ∷ []));
      }

  pub first_neighbour : (first : Option X) → MatchOption first (after ≡ []) (λ e. (rest : List X) × (after ≡ e ∷ rest)) → MatchOption first (after ≡ []) (IsNeighbour f old after r)
  first_neighbour None none = none
  first_neighbour (Some e) (rest, whole) =
      let cut : map f after ≡ f e ∷ map f rest = ap (map f) whole in
      let later : Ascends (f e ∷ map f rest) = rw cut at (Ascends-right (map f before) (map f after) ascend) in
      let low : AllByRecursion (λ t. canonical_cmp r t ≢ Greater) (f e ∷ map f rest) = rw cut at p.above in
      record {
        has = grind (arith, has_side (f e));
        nearest = λ s has one.
            ⊎_elim (λ same. subst (λ t. InOneSet t r) same one) (λ late. near s (f e) (has_side s (inr has)) one (inr (low.0, each_Has (λ t. canonical_cmp (f e) t ≡ Less) (map f rest) s later.0 late))) (rw cut at has);
      }

  -- what a neighbour tells, by a test
  module _ (side : List X) (side_old : (s : Record) → Has (map f side) s → Has old s) where
    none_other : (near : Option X) → MatchOption near (side ≡ []) (IsNeighbour f old side r) → (b : Bool) → MatchOption near (b ≡ false) (λ e. IsTrue b ↔ HasOtherTtl (f e) r) → b ≡ false → (s : Record) → Has (map f side) s → HasOtherTtl s r → ⊥
    none_other near none b told is s has other = grind arith

  pub one_ttl : (last first : Option X) → MatchOption last (before ≡ []) (IsNeighbour f old before r) → MatchOption first (after ≡ []) (IsNeighbour f old after r)
      → (b c : Bool) → MatchOption last (b ≡ false) (λ e. IsTrue b ↔ HasOtherTtl (f e) r) → b ≡ false → MatchOption first (c ≡ false) (λ e. IsTrue c ↔ HasOtherTtl (f e) r) → c ≡ false → OtherTtl old r → ⊥
  one_ttl last first is_last is_first b c told_b is_b told_c is_c (s, has, one, other) = grind (arith, none_other, has_side, Has-append)

  -- the first record that is not before it is after it, where it is another one
  after_first : (OtherTtl old r → ⊥) → (x : Record) → Has (map f after) x → x ≢ r → canonical_cmp r x ≡ Less
  after_first agree x has other = grind (arith, exact_canonical r x, p.classes x (has_side x (inr has)), has_side x (inr has), stable_number x.ttl r.ttl, one_set x r, each_Has (λ t. canonical_cmp r t ≢ Greater) (map f after) x p.above has)

  -- so the record goes between its neighbours
  pub Ascends-between : (OtherTtl old r → ⊥) → (first : Option X) → MatchOption first (after ≡ []) (λ e. (rest : List X) × (after ≡ e ∷ rest)) → (b : Bool) → MatchOption first (b ≡ false) (λ e. IsTrue b ↔ (f e ≡ r)) → b ≡ false → Ascends (map f before ++ r ∷ map f after)
  Ascends-between agree first found b told is = Ascends-with (map f before) (map f after) r ascend p.below (all_after after first found told (after_first agree) (Ascends-right (map f before) (map f after) ascend))
    where
      all_after : (es : List X) (near : Option X) → MatchOption near (es ≡ []) (λ e. (rest : List X) × (es ≡ e ∷ rest)) → MatchOption near (b ≡ false) (λ e. IsTrue b ↔ (f e ≡ r)) → ((x : Record) → Has (map f es) x → x ≢ r → canonical_cmp r x ≡ Less) → Ascends (map f es) → AllByRecursion (λ s. canonical_cmp r s ≡ Less) (map f es)
      all_after [] near found told less later = tt
      all_after (e ∷ es) near found told less later = grind (arith, later_all r (f e) (map f es), less (f e))

-- what a test that is true tells of a neighbour
pub told_by : {X : Type 0} (f : X → Record) (old : List Record) (side : List X) (r : Record) (P : X → Type 0) (near : Option X) → MatchOption near (side ≡ []) (IsNeighbour f old side r) → (b : Bool) → MatchOption near (b ≡ false) (λ e. IsTrue b ↔ P e) → b ≡ true → (e : X) × Has old (f e) × P e
told_by f old side r P near neighbour test told is = grind arith

-- hints that differ tell which record is before the other
pub hints_tell : (m n : ℕ) (r s : Record) → m ≢ n → (m < n → canonical_cmp r s ≡ Less) → (n < m → canonical_cmp s r ≡ Less) → nat_lt m n ≡ is_lt (canonical_cmp r s)
hints_tell m n r s differ low high = grind (arith, nat_tests, canonical_total.antisymm r s)
