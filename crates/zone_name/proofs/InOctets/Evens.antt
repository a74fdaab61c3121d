-- Octets that each stand after one that is the same before all.
use Rattle.zone_name.proofs.Common.{append_assoc, Bool, List, [], TurnsEvens, TurnsFront, ap, ap₂, arith, cond, drop_at, flat_map-append, length-append, put_chunk_is, take_at, drop, drop-drop, eqb, eqb-true, false, get_or, get_or-drop, length, length-drop, map, refl, set, suc, sym, take, take-append-drop, true, zero, ℕ, ◌*◌, ◌++◌, ◌+◌, ◌<◌, ◌∙◌, ◌∷◌, ◌≡◌, ◌≤◌}
use Rattle.zone_name.specs.Common.{each_after}
use native.Mathlib.Numerals.{unary_clauses}
use lib.Lanes.{mask_l, put_chunk}

-- the bits of the even places among so many pairs
abbrev pub even_bits : ℕ → ℕ
even_bits zero = 0
even_bits (suc n) = 1 + 2 * (2 * even_bits n)

-- the lowest two bits, where those of even places alone are set
pub two_bits : (a b : Bool) (bits evens : ℕ) → cond a 1 0 + 2 * (cond b 1 0 + 2 * bits) ≡ 1 + 2 * (2 * evens)
    → (a ≡ true) × (b ≡ false) × (bits ≡ evens)
two_bits true true bits evens e = absurd (omega (arith, e))
two_bits true false bits evens e = (refl, refl, omega (arith, e))
two_bits false true bits evens e = absurd (omega (arith, e))
two_bits false false bits evens e = absurd (omega (arith, e))

-- pairs of which each has one octet first, and that octet turned
pub record Evens (from to n : ℕ) (v : List ℕ) : Type 0 where
  pub others : List ℕ
  pub count : length others ≡ n
  pub before : v ≡ each_after from others
  pub after : map (λ c. cond (eqb c from) to c) v ≡ each_after to others

pub evens_of : (from to n : ℕ) (v : List ℕ) → length v ≡ n + n → mask_l (map (λ c. eqb c from) v) ≡ even_bits n
    → Evens from to n v
evens_of from to zero [] long bits = record { others = []; count = refl; before = refl; after = refl }
evens_of from to zero (x ∷ v) long bits = absurd (omega (arith, long))
evens_of from to (suc n) [] long bits = absurd (omega (arith, long))
evens_of from to (suc n) (x ∷ []) long bits = absurd (omega (arith, long))
evens_of from to (suc n) (x ∷ (y ∷ v)) long bits =
    let two = two_bits (eqb x from) (eqb y from) (mask_l (map (λ c. eqb c from) v)) (even_bits n) bits in
    let more = evens_of from to n v (omega (arith, long)) two.2 in
    record {
      others = y ∷ more.others;
      count = cc (more.count);
      before = cc (eqb-true x from two.0, more.before);
      after = cc (two.0, two.1, more.after);
    }

-- the first two octets from a place on
pub record Pair (octets : List ℕ) (at first next : ℕ) (rest : List ℕ) : Type 0 where
  pub at_first : get_or octets at 0 ≡ first
  pub at_next : get_or octets (at + 1) 0 ≡ next
  pub inside : at + 1 < length octets
  pub left : drop (at + 2) octets ≡ rest

pub pair_at : (at : ℕ) (octets : List ℕ) (first next : ℕ) (rest : List ℕ) → drop at octets ≡ first ∷ (next ∷ rest)
    → Pair octets at first next rest
pair_at at octets first next rest e = record {
  at_first = ap (λ k. get_or octets k 0) (omega arith) ∙ sym (get_or-drop at octets 0 0) ∙ ap (λ t. get_or t 0 0) e;
  at_next = sym (get_or-drop at octets 1 0) ∙ ap (λ t. get_or t 1 0) e;
  inside = omega (arith, ap length e, length-drop at octets);
  left = sym (drop-drop 2 at octets) ∙ ap (drop 2) e;
}

-- the first of two octets turned, and then the others
put_two : (at : ℕ) (octets : List ℕ) (to next : ℕ) (more : List ℕ) → get_or octets (suc at) 0 ≡ next → suc at < length octets
    → put_chunk (suc (suc at)) (set octets at to) more ≡ put_chunk at octets (to ∷ (next ∷ more))
put_two zero [] to next more is inside = absurd (omega (arith, inside))
put_two zero (a ∷ []) to next more is inside = absurd (omega (arith, inside))
put_two zero (a ∷ (b ∷ octets)) to next more is inside = cc (is)
put_two (suc at) [] to next more is inside = absurd (omega (arith, inside))
put_two (suc at) (c ∷ octets) to next more is inside = cc (put_two at octets to next more is (omega (arith, inside)))

pub put_pair : (at : ℕ) (octets : List ℕ) (to next : ℕ) (more : List ℕ) → get_or octets (at + 1) 0 ≡ next → at + 1 < length octets
    → put_chunk (at + 2) (set octets at to) more ≡ put_chunk at octets (to ∷ (next ∷ more))
put_pair at octets to next more is inside =
    simp unary_clauses (put_two at octets to next more (simp unary_clauses at is) (omega (arith, inside)))

pub put_none : (at : ℕ) (octets : List ℕ) → put_chunk at octets [] ≡ octets
put_none at [] = refl
put_none zero (c ∷ octets) = refl
put_none (suc at) (c ∷ octets) = cc (put_none at octets)

-- ---- a walk that turns the octets at the front, eight pairs at a time

pub length-each_after : (first : ℕ) (others : List ℕ) → length (each_after first others) ≡ 2 * length others
length-each_after first [] = refl
length-each_after first (c ∷ others) = omega (arith, length-each_after first others)

pub evens_more : (old now next : List ℕ) (at from to : ℕ) → TurnsFront old now at from to → TurnsEvens now next at from to
    → at + 16 ≤ length now → TurnsFront old next (at + 16) from to
evens_more old now next at from to walk turned room =
    let done = each_after to walk.others in
    let part = each_after to turned.others in
    let rest = drop at old in
    let front : length done ≡ at = omega (arith, length-each_after to walk.others, walk.place) in
    let long : length part ≡ 16 = omega (arith, length-each_after to turned.others, turned.eight) in
    let back : drop at now ≡ rest = ap (drop at) walk.after ∙ drop_at done rest at front in
    let begins : rest ≡ each_after from turned.others ++ drop (at + 16) old =
    sym (take-append-drop 16 rest) ∙ ap₂ (λ (s t : List ℕ). s ++ t) (ap (take 16) (sym back) ∙ turned.before) (drop-drop 16 at old) in
    let put : next ≡ take at now ++ (part ++ drop (length part) (drop at now)) =
    turned.after ∙ put_chunk_is at now part (omega (arith, room, long)) in
    let first : take at now ≡ done = ap (take at) walk.after ∙ take_at done rest at front in
    let end : drop (length part) (drop at now) ≡ drop (at + 16) old = ap₂ drop long back ∙ drop-drop 16 at old in
    record {
      others = walk.others ++ turned.others;
      place = omega (arith, walk.place, turned.eight, length-append walk.others turned.others);
      before = walk.before ∙ ap (λ t. each_after from walk.others ++ t) begins ∙ sym (append_assoc (each_after from walk.others) (each_after from turned.others) (drop (at + 16) old))
          ∙ ap (λ t. t ++ drop (at + 16) old) (sym (flat_map-append (λ c. from ∷ c ∷ []) walk.others turned.others));
      after = put ∙ ap₂ (λ (s t : List ℕ). s ++ (part ++ t)) first end ∙ sym (append_assoc done part (drop (at + 16) old))
          ∙ ap (λ t. t ++ drop (at + 16) old) (sym (flat_map-append (λ c. to ∷ c ∷ []) walk.others turned.others));
    }
