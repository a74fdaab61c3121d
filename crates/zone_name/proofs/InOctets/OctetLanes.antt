-- Lanes that are computed one by one from octets, and what their masks tell of the octets.
use Rattle.std.proofs.Common.{◌≡◌, ℕ, ◌+◌, ◌%◌, ◌^◌, ◌≤◌, eqb, Bool, true, cond, List, [], ◌∷◌, map, length, take, drop, Fits, w8, refl, sym, ap, ap₂, ◌∙◌, arith, length-drop, take-add, drop-drop, take_at, length-append, ◌++◌}
use Rattle.std.proofs.lemmas.List.{drop_at, length-map, length-take-le, map-append, take-map, take-take}
use Rattle.zone_name.proofs.Common.{agree_below, agree_below_at, append_assoc, eqb-true, length-put_chunk, map-map, ◌<◌, mask_l-mod, put_chunk_is}
use lib.Lanes.{Each1, chunk, mask_l, put_chunk, sel_l, top}

-- ---- lanes that were computed by a function of each octet

-- one lane or the other, by a test of each octet
pub chosen : (p : ℕ → Bool) (f g : ℕ → ℕ) (v : List ℕ) {tests : List Bool} {xs ys : List ℕ}
    → tests ≡ map p v → xs ≡ map f v → ys ≡ map g v
    → sel_l tests xs ys ≡ map (λ x. cond (p x) (f x) (g x)) v
chosen p f g v {tests} {xs} {ys} e a b = rw (e, a, b) (by v)
  where
    by : (v : List ℕ) → sel_l (map p v) (map f v) (map g v) ≡ map (λ x. cond (p x) (f x) (g x)) v
    by [] = refl
    by (x ∷ v) = ap (λ t. cond (p x) (f x) (g x) ∷ t) (by v)

-- two functions that agree on each octet, which is tried
same_each : {B : Type 0} (f g : ℕ → B) (v : List ℕ) → Each1 (Fits w8) v
    → ((x : ℕ) → x < 256 → f x ≡ g x) → map f v ≡ map g v
same_each f g [] fits same = refl
same_each f g (x ∷ v) fits same = cc (same x fits.0.fits, same_each f g v fits.1 same)

pub same_lanes : (f g : ℕ → ℕ) (v : List ℕ) → Each1 (Fits w8) v
    → agree_below (λ x. eqb (f x) (g x)) (λ _. true) 256 ≡ true → map f v ≡ map g v
same_lanes f g v fits all = same_each f g v fits
    (λ x h. eqb-true (f x) (g x) (agree_below_at (λ y. eqb (f y) (g y)) (λ _. true) 256 x all h))

-- ---- masks: the bits of lanes, z, that were computed by f from the octets v, are a test of each
-- octet, which is tried for all of them

module _ (p : ℕ → Bool) (v : List ℕ) (short : length v ≤ 64) (fits : Each1 (Fits w8) v)
    (z : List ℕ) (f : ℕ → ℕ) (lanes : z ≡ map f v)
    (all : agree_below (λ x. top 7 (f x)) p 256 ≡ true) where
  pub mask_is : mask_l (map (top 7) z) % 2 ^ 64 ≡ mask_l (map p v)
  mask_is =
      ap (λ l. mask_l l % 2 ^ 64) (ap (map (top 7)) lanes ∙ map-map (top 7) f v
      ∙ same_each (λ x. top 7 (f x)) p v fits (λ x h. agree_below_at (λ y. top 7 (f y)) p 256 x all h))
      ∙ mask_l-mod (map p v) 64 (omega (arith, short, length-map v p))

-- ---- a walk that changes the octets at the front, some at a time

pub record Mapped (f : ℕ → ℕ) (old now : List ℕ) (at : ℕ) : Type 0 where
  pub front : take at now ≡ map f (take at old)
  pub back : drop at now ≡ drop at old
  pub same : length now ≡ length old

pub mapped_more : (f : ℕ → ℕ) (old now next : List ℕ) (at n : ℕ) → Mapped f old now at
    → at + n ≤ length now → next ≡ put_chunk at now (map f (chunk at n now)) → Mapped f old next (at + n)
mapped_more f old now next at n walk room is =
    let part = map f (chunk at n now) in
    let long : length part ≡ n =
    length-map (chunk at n now) f ∙ length-take-le n (drop at now) (omega (arith, room, length-drop at now)) in
    let put : next ≡ take at now ++ (part ++ drop (length part) (drop at now)) =
    is ∙ put_chunk_is at now part (omega (arith, room, long)) in
    let whole : next ≡ (take at now ++ part) ++ drop n (drop at now) =
    put ∙ rw long (sym (append_assoc (take at now) part (drop n (drop at now)))) in
    let count : length (take at now ++ part) ≡ at + n =
    omega (arith, long, room, length-append (take at now) part, length-take-le at now (omega (arith, room))) in
    record {
      front = ap (take (at + n)) whole ∙ take_at (take at now ++ part) (drop n (drop at now)) (at + n) count
          ∙ ap₂ (λ (s t : List ℕ). s ++ t) walk.front (ap (λ t. map f (take n t)) walk.back)
          ∙ sym (map-append f (take at old) (take n (drop at old))) ∙ ap (map f) (sym (take-add at n old));
      back = ap (drop (at + n)) whole ∙ drop_at (take at now ++ part) (drop n (drop at now)) (at + n) count
          ∙ ap (drop n) walk.back ∙ drop-drop n at old;
      same = ap length is ∙ length-put_chunk at now part ∙ walk.same;
    }

pub mapped_front : (f : ℕ → ℕ) (old now : List ℕ) (at len : ℕ) → Mapped f old now at → len ≤ at
    → take len now ≡ map f (take len old)
mapped_front f old now at len walk le =
    sym (take-take len at now le) ∙ ap (take len) walk.front ∙ take-map f len (take at old)
    ∙ ap (map f) (take-take len at old le)
