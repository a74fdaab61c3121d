-- The places of a walk by what stands there (RFC 1035 3.1, 4.1.4).
use Rattle.std.specs.Prelude.{◌≡◌, ℕ, List, [], ◌∷◌, ◌||◌, Bool, true, false, ⊤}
use Rattle.std.specs.List.{count_by}
use Rattle.zone_wire.specs.Walk.{Standing, at_label, at_pointer, Visit}

abbrev pub is_label : Standing → Bool
is_label (at_label size) = true
is_label other = false

abbrev pub is_pointer : Standing → Bool
is_pointer (at_pointer target) = true
is_pointer other = false

abbrev pub labels_in : List Visit → ℕ
labels_in visits = count_by (λ v. is_label v.standing) visits

abbrev pub pointers_in : List Visit → ℕ
pointers_in visits = count_by (λ v. is_pointer v.standing) visits

-- a label or a pointer stands at each place before the last
abbrev pub LeadToLast : List Visit → Type 0
LeadToLast [] = ⊤
LeadToLast (last ∷ []) = ⊤
LeadToLast (v ∷ next ∷ visits) =
    (is_label v.standing || is_pointer v.standing ≡ true) × LeadToLast (next ∷ visits)
