-- What stands at a place, read off the octets, and back.
use Rattle.zone_wire.proofs.Common.{Fault, FaultHere, IsLabelAt, IsPointerAt, List, None, Option, Some, Spot, Standing, ap, arith, at_fault, at_label, at_pointer, at_root, common_steps, cond_both, fails, holds, inl, inr, leb-false, leb-true, length, ltb-false, ltb-true, nat_tests, slice_index, standing_in, sym, ℕ, ◌+◌, ◌<◌, ◌∙◌, ◌≡◌, ◌≤◌}
use Rattle.zone_wire.proofs.Conditions.{unless_holds, unless_one}

-- what the octets at a place are, by what stands there
abbrev pub Shows : List ℕ → Spot → Option Standing → Type 0
Shows message spot None = length message ≤ spot.offset
Shows message spot (Some at_root) = (spot.offset < length message) × (slice_index message spot.offset ≡ 0)
Shows message spot (Some (at_label size)) = IsLabelAt message spot.offset size × (spot.octets + size + 2 ≤ 255)
Shows message spot (Some (at_pointer target)) = IsPointerAt message spot.offset spot.bound target × (spot.pointers < 128)
Shows message spot (Some (at_fault fault)) = FaultHere message spot.offset spot.bound spot.pointers spot.octets fault

-- what stands at a place shows its octets
pub standing_shows : (message : List ℕ) (spot : Spot) → Shows message spot (standing_in message spot)
unfolding standing_in
standing_shows message spot = grind (arith, nat_tests, cond_both, leb-true, leb-false, ltb-true, ltb-false, at_fault, at_label, fails, holds, at_pointer)

-- one thing stands at a place
label_fine : (message : List ℕ) (spot : Spot) (size : ℕ) (fault : Fault) → IsLabelAt message spot.offset size → spot.octets + size + 2 ≤ 255 → FaultHere message spot.offset spot.bound spot.pointers spot.octets fault → ⊥
label_fine message spot size fault is room bad = grind arith

pointer_fine : (message : List ℕ) (spot : Spot) (target : ℕ) (fault : Fault) → IsPointerAt message spot.offset spot.bound target → spot.pointers < 128 → FaultHere message spot.offset spot.bound spot.pointers spot.octets fault → ⊥
pointer_fine message spot target fault pointer few bad = grind (arith, unless_holds)

one_fault : (message : List ℕ) (spot : Spot) (f g : Fault) → FaultHere message spot.offset spot.bound spot.pointers spot.octets f → FaultHere message spot.offset spot.bound spot.pointers spot.octets g → f ≡ g
one_fault message spot f g (inl is) (inl too) = unless_one (λ _ _. unless_one (λ _ _ none. absurd none)) is.2 too.2
one_fault message spot f g (inr (inl is)) (inr (inl too)) = is.2 ∙ sym too.2
one_fault message spot f g (inr (inr is)) (inr (inr too)) = unless_one (λ _ _. unless_one (λ _ _. unless_one (λ _ _ none. absurd none))) is.1 too.1
one_fault message spot f g (inl is) (inr (inl too)) = absurd (omega (arith, is.1, too.0))
one_fault message spot f g (inl is) (inr (inr too)) = absurd (omega (arith, is.1, too.0))
one_fault message spot f g (inr (inl is)) (inl too) = absurd (omega (arith, is.0, too.1))
one_fault message spot f g (inr (inr is)) (inl too) = absurd (omega (arith, is.0, too.1))
one_fault message spot f g (inr (inl is)) (inr (inr too)) = absurd (omega (arith, is.1, too.0))
one_fault message spot f g (inr (inr is)) (inr (inl too)) = absurd (omega (arith, is.0, too.1))

one_standing : (message : List ℕ) (spot : Spot) (s t : Option Standing) → Shows message spot s → Shows message spot t → s ≡ t
one_standing message spot (Some (at_fault f)) (Some (at_fault g)) is too = ap (λ x. Some (at_fault x)) (one_fault message spot f g is too)
one_standing message spot (Some (at_label n)) (Some (at_label m)) is too = grind arith
one_standing message spot (Some (at_label n)) (Some (at_fault f)) is too = absurd (label_fine message spot n f is.0 is.1 too)
one_standing message spot (Some (at_fault f)) (Some (at_label n)) is too = absurd (label_fine message spot n f too.0 too.1 is)
one_standing message spot (Some (at_pointer n)) (Some (at_pointer m)) is too = grind arith
one_standing message spot (Some (at_pointer n)) (Some (at_fault f)) is too = absurd (pointer_fine message spot n f is.0 is.1 too)
one_standing message spot (Some (at_fault f)) (Some (at_pointer n)) is too = absurd (pointer_fine message spot n f too.0 too.1 is)
one_standing message spot s t is too = grind (arith, common_steps)

pub standing_is : (message : List ℕ) (spot : Spot) (s : Option Standing) → Shows message spot s → standing_in message spot ≡ s
standing_is message spot s is = one_standing message spot (standing_in message spot) s (standing_shows message spot) is
