-- Entries that are looked at run after run, each run as soon as it is sorted.
use Rattle.zone_set.proofs.Common.{common_steps, AllByRecursion, AllByRecursion-back, AllByRecursion-front, AreNeighbours, Entry, List, Record, [], ap, append-nil, arith, drop, length, length-drop, length-take-le, map, refl, subst, suc, sym, take, take-append-drop, take-length, zero, ℕ, ◌+◌, ◌-◌, ◌∙◌, ◌∷◌, ◌≡◌, ◌≤◌, StandNext, nil_from_length, slice_index_or, ◌++◌, ◌<◌}
use Rattle.std.proofs.lemmas.List.{drop-take}
use Rattle.std.specs.Prelude.{slice_set}
use native.Mathlib.Numerals.{unary_clauses}

pub each_drop : {X : Type 0} (P : X → Type 0) (n : ℕ) (xs : List X) → AllByRecursion P xs → AllByRecursion P (drop n xs)
each_drop P n xs each = AllByRecursion-back P (take n xs) (drop n xs) (rw take-append-drop each)

pub each_take : {X : Type 0} (P : X → Type 0) (n : ℕ) (xs : List X) → AllByRecursion P xs → AllByRecursion P (take n xs)
each_take P n xs each = AllByRecursion-front P (take n xs) (drop n xs) (rw take-append-drop each)

pub take_front : {X : Type 0} (n m : ℕ) (xs : List X) → n ≤ m → take n (take m xs) ≡ take n xs
take_front zero m xs low = refl
take_front (suc n) zero xs low = absurd (omega (arith, low))
take_front (suc n) (suc m) [] low = refl
take_front (suc n) (suc m) (x ∷ xs) low = ap (λ l. x ∷ l) (take_front n m xs (omega (arith, low)))

-- a place before the end of a front is within it
pub within_front : {X : Type 0} (start len n : ℕ) (xs : List X) → n ≡ start + len → start + len ≤ length xs → start ≤ length (take n xs)
within_front start len n xs is within = grind (arith, common_steps, length-take-le)

-- all from a place on
pub take_rest : {X : Type 0} (k : ℕ) (xs : List X) → take (length xs - k) (drop k xs) ≡ drop k xs
take_rest k xs = ap (λ n. take n (drop k xs)) (sym (length-drop k xs)) ∙ take-length (drop k xs)

-- where none is left, all came
pub take_whole : {X : Type 0} (k : ℕ) (xs : List X) → take (length xs - k) (drop k xs) ≡ [] → take k xs ≡ xs
take_whole k xs none = grind (arith, common_steps, take_rest, append-nil, take-append-drop)

-- a run of those after a place, in the front that it ends
pub run_alike : (f : Entry → Entry) (start len : ℕ) (es : List Entry) → map f (take len (take (length es - start) (drop start es))) ≡ take len (take (length es - start) (drop start es)) → map f (drop start (take (start + len) es)) ≡ drop start (take (start + len) es)
run_alike f start len es same =
    let front : take len (take (length es - start) (drop start es)) ≡ drop start (take (start + len) es) = ap (take len) (take_rest start es) ∙ sym (drop-take start len es) in
    subst (λ l. map f l ≡ l) front same

-- with two neighbours in each other's place
abbrev changed : {X : Type 0} → ℕ → ℕ → List X → X → List X
changed low high xs d = slice_set (slice_set xs low (slice_index_or xs high d)) high (slice_index_or xs low d)

others_changed : {X : Type 0} (n : ℕ) (xs : List X) (d : X) → suc n < length xs → take n (changed n (suc n) xs d) ++ drop (suc n) (changed n (suc n) xs d) ≡ take (suc n) xs ++ drop (suc (suc n)) xs
others_changed n [] d low = absurd (omega (arith, low))
others_changed n (x ∷ []) d low = absurd (omega (arith, low))
others_changed zero (x ∷ (y ∷ xs)) d low = refl
others_changed (suc n) (x ∷ (y ∷ xs)) d low = ap (λ l. x ∷ l) (others_changed n (y ∷ xs) d (omega (arith, low)))

-- those beside the one that moves stay
pub others_stay : {X : Type 0} (at : ℕ) (xs : List X) (d : X) → 0 < at → at < length xs → take (at - 1) (changed (at - 1) at xs d) ++ drop (suc (at - 1)) (changed (at - 1) at xs d) ≡ take at xs ++ drop (suc at) xs
others_stay zero xs d low high = absurd (omega (arith, low))
others_stay (suc n) xs d low high = simp unary_clauses (others_changed n xs d high)

-- those beside the last
pub others_at_end : {X : Type 0} (at : ℕ) (xs : List X) → at ≡ length xs - 1 → take at xs ++ drop (suc at) xs ≡ take (length xs - 1) xs
others_at_end at xs is =
    let none : drop (suc at) xs ≡ [] = nil_from_length _ (length-drop (suc at) xs ∙ omega (arith, is)) in
    ap (λ l. take at xs ++ l) none ∙ append-nil (take at xs) ∙ ap (λ n. take n xs) is

module _ (f : Entry → Record) where
  one_stands : (es : List Entry) → length es ≤ 1 → AreNeighbours (map f es)
  one_stands [] few = tt
  one_stands (e ∷ []) few = tt
  one_stands (d ∷ (e ∷ es)) few = absurd (omega (arith, few))

  -- the last stands alone
  pub last_stands : (at : ℕ) (es : List Entry) → at ≡ length es - 1 → AreNeighbours (map f (drop at es))
  last_stands at es is = one_stands (drop at es) (let left = length-drop at es in omega (arith, left, is))

  joined_at : (n : ℕ) (es : List Entry) → AreNeighbours (map f (take (suc n) es)) → AreNeighbours (map f (drop n es)) → AreNeighbours (map f es)
  joined_at zero es front back = back
  joined_at (suc n) [] front back = tt
  joined_at (suc n) (x ∷ []) front back = tt
  joined_at (suc n) (x ∷ (y ∷ es)) front back = (front.0, joined_at n (y ∷ es) front.1 back)

  -- those before a place, and those from the last of them on
  pub AreNeighbours-joined : (start last : ℕ) (es : List Entry) → last ≡ start - 1 → AreNeighbours (map f (take start es)) → AreNeighbours (map f (drop last es)) → AreNeighbours (map f es)
  AreNeighbours-joined zero last es is front back =
      let none : last ≡ zero = omega (arith, is) in
      subst (λ n. AreNeighbours (map f (drop n es))) none back
  AreNeighbours-joined (suc n) last es is front back =
      let one : last ≡ n = omega (arith, is) in
      joined_at n es front (subst (λ m. AreNeighbours (map f (drop m es))) one back)

  put_between : (n : ℕ) (es : List Entry) (d : Entry) → suc n < length es → AreNeighbours (map f (take (suc n) es ++ drop (suc (suc n)) es)) → AreNeighbours (map f (drop (suc n) es)) → StandNext (f (slice_index_or es n d)) (f (slice_index_or es (suc n) d)) → AreNeighbours (map f es)
  put_between n [] d low others from next = tt
  put_between n (x ∷ []) d low others from next = tt
  put_between zero (x ∷ (y ∷ es)) d low others from next = (next, from)
  put_between (suc n) (x ∷ (y ∷ es)) d low others from next = (others.0, put_between n (y ∷ es) d (omega (arith, low)) others.1 from next)

  -- where the others are neighbours, and those from one on, and this one stands after that before it, all are
  pub AreNeighbours-between : (at : ℕ) (es : List Entry) (d : Entry) → 0 < at → at < length es → AreNeighbours (map f (take at es ++ drop (suc at) es)) → AreNeighbours (map f (drop at es)) → StandNext (f (slice_index_or es (at - 1) d)) (f (slice_index_or es at d)) → AreNeighbours (map f es)
  AreNeighbours-between zero es d low high others from next = absurd (omega (arith, low))
  AreNeighbours-between (suc n) es d low high others from next = put_between n es d high others from (simp unary_clauses at next)

  put_before : (n : ℕ) (es : List Entry) (d : Entry) → suc n < length es → AreNeighbours (map f (take (suc n) es ++ drop (suc (suc n)) es)) → StandNext (f (slice_index_or es (suc n) d)) (f (slice_index_or es n d)) → AreNeighbours (map f (drop n (changed n (suc n) es d)))
  put_before n [] d low others next = absurd (omega (arith, low))
  put_before n (x ∷ []) d low others next = absurd (omega (arith, low))
  put_before zero (x ∷ (y ∷ es)) d low others next = (next, others)
  put_before (suc n) (x ∷ (y ∷ es)) d low others next = put_before n (y ∷ es) d (omega (arith, low)) others.1 next

  -- and where it stands before that one, those from it on are when both have changed places
  pub AreNeighbours-changed : (at : ℕ) (es : List Entry) (d : Entry) → 0 < at → at < length es → AreNeighbours (map f (take at es ++ drop (suc at) es)) → StandNext (f (slice_index_or es at d)) (f (slice_index_or es (at - 1) d)) → AreNeighbours (map f (drop (at - 1) (changed (at - 1) at es d)))
  AreNeighbours-changed zero es d low high others next = absurd (omega (arith, low))
  AreNeighbours-changed (suc n) es d low high others next = simp unary_clauses (put_before n es d high others (simp unary_clauses at next))
