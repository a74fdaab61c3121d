-- Data has a form with its names in lower case.
use Rattle.zone_rdata.proofs.Common.{[], ◌≡◌, ℕ, ◌+◌, ◌<◌, ◌≤◌, List, ◌∷◌, ◌++◌, length, take, drop, refl, sym, ap, subst, arith, flat_map, map}
use Rattle.std.proofs.Common.{Bool, true, false, suc, zero, Option, None, Some, inl, inr, length-append}
use Rattle.std.specs.Prelude.{nat_le, ◌==◌}
use Rattle.std.proofs.lemmas.List.{length-drop}
use Rattle.zone_name.specs.Common.{AreOctets, Labels}
use Rattle.zone_name.specs.Name.{folded, wire, with_length}
use Rattle.zone_name.proofs.InOctets.Pushing.{AllByRecursion-back}
use Rattle.zone_rdata.proofs.Fields.FieldLaws.{low_drop}
use Rattle.data_names.specs.Machine.Front.{AreNames, BeginsWithCased, BeginsWithExtent, BeginsWithMany}
use Rattle.data_names.specs.declared.table.Extent.{Extent}
use Rattle.data_names.specs.declared.table.Extent.TheVariants.{Front, ToEnd, Whole}
use Rattle.data_names.specs.NamesInData.{HasNames, IsLowered, with_names, with_none}
use Rattle.data_names.specs.declared.table.NamesAt.{NamesAt}
use Rattle.data_names.proofs.Walks.{HasPassed, end_begins, end_names, first_of_names, found, front_begins, front_many, many_more, names_after, names_behind, next_fits, no_first, no_more, no_names, none_yet, not_whole, nothing_is_names, passed_more, whole, whole_begins, whole_many}
use Rattle.zone_rdata.proofs.Choices.{Decided}

abbrev IsOctet : ℕ → Type 0
IsOctet c = c < 256

-- ---- a name
abbrev HasName : List ℕ → Type 0
HasName octets = (name : Labels) × (rest : List ℕ) × BeginsWithCased octets name rest

-- where a label begins, the tests of its length tell
name_by : (octets following : List ℕ) (len c : ℕ) → HasPassed octets (suc c ∷ following) len → ((suc c ≤ 63) → (suc c ≤ length following) → (len + (suc c + 1) ≤ 255) → Decided (HasName octets))
    → (x y z : Bool) → nat_le (suc c) 63 ≡ x → nat_le (suc c) (length following) ≡ y → nat_le (len + (suc c + 1)) 255 ≡ z → Decided (HasName octets)
name_by octets following len c p on x y z is_x is_y is_z = by x y z is_x is_y is_z
  where
    fits : (name : Labels) (tail : List ℕ) → BeginsWithCased octets name tail → (suc c ≤ 63) × (len + (suc c + 1) ≤ 255) × (suc c ≤ length following)
    fits name tail b = next_fits octets (suc c ∷ following) len (suc c) following p refl (omega arith) name tail b

    by : (x y z : Bool) → nat_le (suc c) 63 ≡ x → nat_le (suc c) (length following) ≡ y → nat_le (len + (suc c + 1)) 255 ≡ z → Decided (HasName octets)
    by false y z is_x is_y is_z = inr (λ h. let f = fits h.0 h.1 h.2 in grind (arith, f.0, is_x))
    by true false z is_x is_y is_z = inr (λ h. let f = fits h.0 h.1 h.2 in grind (arith, f.2, is_y))
    by true true false is_x is_y is_z = inr (λ h. let f = fits h.0 h.1 h.2 in grind (arith, f.1, is_z))
    by true true true is_x is_y is_z = on (grind (arith, is_x)) (grind (arith, is_y)) (grind (arith, is_z))

name_from : (n : ℕ) (octets rest : List ℕ) (len : ℕ) → AreOctets octets → HasPassed octets rest len → len ≤ 255 → length rest ≤ n → Decided (HasName octets)
name_from n octets [] len each p short few = inr (λ h. no_first octets [] len p refl h.0 h.1 h.2)
name_from n octets (zero ∷ following) len each p short few = inl (p.labels, following, found octets (0 ∷ following) len following p refl short)
name_from zero octets (suc c ∷ following) len each p short few = absurd (omega (arith, few))
name_from (suc n) octets (suc c ∷ following) len each p short few =
    name_by octets following len c p (λ one two three. name_from n octets (drop (suc c) following) (len + (suc c + 1)) each
    (passed_more octets (suc c ∷ following) len (len + (suc c + 1)) (suc c) following (drop (suc c) following) p refl (omega arith) one two each refl refl)
    three (omega (arith, length-drop (suc c) following, few)))
    _ _ _ refl refl refl

name_at : (octets : List ℕ) → AreOctets octets → Decided (HasName octets)
name_at octets each = name_from (length octets) octets octets 1 each (record { labels = []; each = tt; parts = refl; len = refl }) (omega arith) (omega arith)

-- ---- many names
abbrev HasMany : ℕ → List ℕ → Type 0
HasMany count octets = (len : ℕ) × BeginsWithMany count octets len

many_next : (i count : ℕ) (octets : List ℕ) (len : ℕ) → i < count → BeginsWithMany i octets len → ((name : Labels) (rest : List ℕ) → BeginsWithCased (drop len octets) name rest → Decided (HasMany count octets)) → Decided (HasName (drop len octets)) → Decided (HasMany count octets)
many_next i count octets len less p on (inl (name, rest, b)) = on name rest b
many_next i count octets len less p on (inr none) = inr (λ m. no_more i count octets (drop len octets) len p less refl (λ name rest b. none (name, rest, b)) m.0 m.1)

many_from : (left i count : ℕ) (octets : List ℕ) (len : ℕ) → AreOctets octets → i + left ≡ count → BeginsWithMany i octets len → Decided (HasMany count octets)
many_from zero i count octets len each as_many p = inl (len, subst (λ k. BeginsWithMany k octets len) (omega (arith, as_many)) p)
many_from (suc left) i count octets len each as_many p =
    many_next i count octets len (omega (arith, as_many)) p
    (λ name rest b. many_from left (i + 1) count octets (len + length (wire name)) each (omega (arith, as_many)) (many_more i octets (drop len octets) len (length (wire name)) (len + length (wire name)) p refl name rest b refl refl))
    (name_at (drop len octets) (low_drop len octets each))

many_at : (count : ℕ) (octets : List ℕ) → AreOctets octets → Decided (HasMany count octets)
many_at count octets each = many_from count 0 count octets 0 each (omega arith) (none_yet octets 0 refl)

-- ---- names up to the end
names_next : (octets : List ℕ) → (octets ≡ [] → ⊥) → ((name : Labels) (rest : List ℕ) → BeginsWithCased octets name rest → Decided (AreNames rest)) → Decided (HasName octets) → Decided (AreNames octets)
names_next octets some on (inl (name, rest, b)) = by (on name rest b)
  where
    by : Decided (AreNames rest) → Decided (AreNames octets)
    by (inl are) = inl (names_after octets rest name b are)
    by (inr not) = inr (λ are. not (names_behind octets rest name b are))
names_next octets some on (inr none) = inr (λ are. none (first_of_names octets some are))

shorter : (octets rest : List ℕ) (name : Labels) (n : ℕ) → BeginsWithCased octets name rest → length octets ≤ suc n → length rest ≤ n
shorter octets rest name n b few = omega (arith, ap length b.parts, length-append (wire name) rest, length-append (flat_map with_length name) (0 ∷ []), few)

octets_behind : (octets rest : List ℕ) (name : Labels) → BeginsWithCased octets name rest → AreOctets octets → AreOctets rest
octets_behind octets rest name b each = AllByRecursion-back IsOctet (wire name) rest (subst AreOctets b.parts each)

names_from : (n : ℕ) (octets : List ℕ) → AreOctets octets → length octets ≤ n → Decided (AreNames octets)
names_from n [] each few = inl nothing_is_names
names_from zero (c ∷ octets) each few = absurd (omega (arith, few))
names_from (suc n) (c ∷ octets) each few =
    names_next (c ∷ octets) (λ e. cc) (λ name rest b. names_from n rest (octets_behind (c ∷ octets) rest name b each) (shorter (c ∷ octets) rest name n b few)) (name_at (c ∷ octets) each)

-- ---- names of an extent
abbrev HasLen : Extent → List ℕ → Type 0
HasLen extent octets = (len : ℕ) × BeginsWithExtent extent octets len

whole_at : (count : ℕ) (octets : List ℕ) → Decided (HasMany count octets) → Decided (HasLen (Whole count) octets)
whole_at count octets (inl (len, p)) = by (len == length octets) refl
  where
    by : (b : Bool) → (len == length octets) ≡ b → Decided (HasLen (Whole count) octets)
    by true is = inl (len, whole_begins count octets len p (grind (arith, is)))
    by false is = inr (λ h. not_whole count octets len p (λ e. grind (arith, e, is)) h.0 h.1)
whole_at count octets (inr none) = inr (λ h. none (h.0, whole_many count octets h.0 h.1))

extent_at : (extent : Extent) (octets : List ℕ) → AreOctets octets → Decided (HasLen extent octets)
extent_at (Whole count) octets each = whole_at count octets (many_at count octets each)
extent_at (Front count) octets each = front_at (many_at count octets each)
  where
    front_at : Decided (HasMany count octets) → Decided (HasLen (Front count) octets)
    front_at (inl (len, p)) = inl (len, front_begins count octets len p)
    front_at (inr none) = inr (λ h. none (h.0, front_many count octets h.0 h.1))
extent_at ToEnd octets each = end_at (names_from (length octets) octets each (omega arith))
  where
    end_at : Decided (AreNames octets) → Decided (HasLen ToEnd octets)
    end_at (inl are) = inl (length octets, end_begins octets are)
    end_at (inr none) = inr (λ h. none (end_names octets h.0 h.1))

-- ---- data
too_short : (at : NamesAt) (octets front : List ℕ) (names : List Labels) (rest : List ℕ) → HasNames at octets front names rest → at.before ≤ length octets
too_short at octets front names rest h = omega (arith, ap length h.parts, length-append front (flat_map wire names ++ rest), h.before)

abbrev HasLow : Option NamesAt → List ℕ → Type 0
HasLow at octets = (low : List ℕ) × IsLowered at octets low

pub low_of : (at : Option NamesAt) (octets : List ℕ) → AreOctets octets → HasLow at octets
low_of None octets each = (octets, with_none (λ place front names rest is. absurd (cc is)) refl)
low_of (Some at) octets each = by_room (nat_le at.before (length octets)) refl
  where
    as_is : ((place : NamesAt) (front : List ℕ) (names : List Labels) (rest : List ℕ) → Some at ≡ Some place → HasNames place octets front names rest → ⊥) → HasLow (Some at) octets
    as_is none = (octets, with_none none refl)

    by_names : at.before ≤ length octets → Decided (HasLen at.extent (drop at.before octets)) → HasLow (Some at) octets
    by_names room (inl (len, p)) =
        let after = drop len (drop at.before octets) in
        let h = whole at octets (take at.before octets) (drop at.before octets) (take len (drop at.before octets)) after len refl refl room p refl refl in
        (take at.before octets ++ (flat_map wire (map folded p.names) ++ after), with_names at (take at.before octets) p.names after refl h.0 refl)
    by_names room (inr none) = as_is (no_names at (Some at) octets (drop at.before octets) refl refl (λ len p. none (len, p)))

    by_room : (b : Bool) → nat_le at.before (length octets) ≡ b → HasLow (Some at) octets
    by_room false is = as_is (λ place front names rest same h. (
        let room = too_short place octets front names rest h in
        let one : at ≡ place = cc same in
        let own : at.before ≤ length octets = subst (λ q. q.before ≤ length octets) (sym one) room in
        grind (arith, own, is)))
    by_room true is = by_names (grind (arith, is)) (extent_at at.extent (drop at.before octets) (low_drop at.before octets each))
