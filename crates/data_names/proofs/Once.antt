-- Data has one form with its names in lower case.
use Rattle.zone_rdata.proofs.Common.{[], ◌≡◌, ℕ, List, ◌∷◌, ◌++◌, length, length-map, refl, sym, ap, ◌∙◌, subst, arith, length-append, append-nil, append_assoc, append_cancel_left, flat_map, AllByRecursion, map, Option, take, ◌≤◌}
use Rattle.std.proofs.Common.{Some}
use Rattle.zone_name.specs.Common.{Labels}
use Rattle.zone_name.specs.Name.{IsCasedName, labels_of, wire, with_length, folded, folded_octet}
use Rattle.zone_rdata.proofs.Octets.Sent.{append_same}
use Rattle.data_names.specs.NamesInData.{HasExtent, HasNames, IsLowered, names_at, names_of, with_names, with_none}
use Rattle.data_names.specs.declared.table.Extent.{Extent}
use Rattle.data_names.specs.declared.table.Extent.TheVariants.{Front, ToEnd, Whole}
use Rattle.data_names.specs.declared.table.NamesAt.{NamesAt}
use Rattle.data_names.proofs.Walks.{folded_wires, front_same, labels_of-cased, lowered_names, one_place}

-- what is left of as many is nothing
none_left : (names others more : List Labels) (n : ℕ) → length names ≡ n → length others ≡ n → others ≡ names ++ more → more ≡ []
none_left names others [] n a b e = refl
none_left names others (m ∷ more) n a b e = absurd (omega (arith, ap length e, length-append names (m ∷ more), a, b))

-- so many names, and what is after them
counted_same : (n m : List Labels) (r s : List ℕ) → AllByRecursion IsCasedName n → AllByRecursion IsCasedName m → length n ≡ length m → flat_map wire n ++ r ≡ flat_map wire m ++ s → (n ≡ m) × (r ≡ s)
counted_same n m r s is iz as_many same =
    let on = front_same n m r s is iz same (omega (arith, as_many)) in
    let none : on.0 ≡ [] = none_left n m on.0 (length m) as_many refl on.1 in
    (sym (append-nil n) ∙ ap (λ x. n ++ x) (sym none) ∙ sym on.1, on.2 ∙ ap (λ x. flat_map wire x ++ s) none)

no_octets : (front after : List ℕ) → [] ≡ front ++ (0 ∷ after) → ⊥
no_octets [] after e = cc
no_octets (c ∷ front) after e = cc

no_wire : (name : Labels) (after : List ℕ) → [] ≡ wire name ++ after → ⊥
no_wire name after e = no_octets (flat_map with_length name) after (e ∙ append_assoc (flat_map with_length name) (0 ∷ []) after)

-- all names up to the end
all_same : (n m : List Labels) → AllByRecursion IsCasedName n → AllByRecursion IsCasedName m → flat_map wire n ≡ flat_map wire m → n ≡ m
all_same [] [] is iz same = refl
all_same [] (l ∷ m) is iz same = absurd (no_wire l (flat_map wire m) same)
all_same (k ∷ n) [] is iz same = absurd (no_wire k (flat_map wire n) (sym same))
all_same (k ∷ n) (l ∷ m) is iz same =
    let first : k ≡ l = sym (labels_of-cased k (flat_map wire n) is.0) ∙ ap labels_of same ∙ labels_of-cased l (flat_map wire m) iz.0 in
    let cut : flat_map wire n ≡ flat_map wire m = append_cancel_left (wire k) (flat_map wire n) (flat_map wire m) (same ∙ ap (λ x. wire x ++ flat_map wire m) (sym first)) in
    ap (λ x. x ∷ n) first ∙ ap (λ x. l ∷ x) (all_same n m is.1 iz.1 cut)

extent_same : (e : Extent) (n m : List Labels) (r s : List ℕ) → AllByRecursion IsCasedName n → AllByRecursion IsCasedName m → HasExtent e n r → HasExtent e m s → flat_map wire n ++ r ≡ flat_map wire m ++ s → (n ≡ m) × (r ≡ s)
extent_same (Whole count) n m r s is iz h k same = counted_same n m r s is iz (h.0 ∙ sym k.0) same
extent_same (Front count) n m r s is iz h k same = counted_same n m r s is iz (h ∙ sym k) same
extent_same ToEnd n m r s is iz h k same = (
  all_same n m is iz (sym (append-nil (flat_map wire n)) ∙ ap (λ x. flat_map wire n ++ x) (sym h) ∙ same ∙ ap (λ x. flat_map wire m ++ x) k ∙ append-nil (flat_map wire m)),
  h ∙ sym k,
)

names_once : (p : NamesAt) (octets f g : List ℕ) (n m : List Labels) (r s : List ℕ) → HasNames p octets f n r → HasNames p octets g m s → (f ≡ g) × (n ≡ m) × (r ≡ s)
names_once p octets f g n m r s h k =
    let cut = append_same f g (flat_map wire n ++ r) (flat_map wire m ++ s) (h.before ∙ sym k.before) (sym h.parts ∙ k.parts) in
    let same = extent_same p.extent n m r s h.each k.each h.extent k.extent cut.1 in
    (cut.0, same.0, same.1)

pub lowered_once : (at : Option NamesAt) (octets a b : List ℕ) → IsLowered at octets a → IsLowered at octets b → a ≡ b
lowered_once at octets a b (with_names p f n r is h e) (with_names q g m s iz k d) =
    let same : q ≡ p = one_place q p (sym iz ∙ is) in
    let once = names_once p octets f g n m r s h (subst (λ x. HasNames x octets g m s) same k) in
    e ∙ ap (λ x. x ++ (flat_map wire (map folded n) ++ r)) once.0 ∙ ap (λ x. g ++ (flat_map wire (map folded x) ++ r)) once.1 ∙ ap (λ x. g ++ (flat_map wire (map folded m) ++ x)) once.2 ∙ sym d
lowered_once at octets a b (with_names p f n r is h e) (with_none not d) = absurd (not p f n r is h)
lowered_once at octets a b (with_none not d) (with_names p f n r is h e) = absurd (not p f n r is h)
lowered_once at octets a b (with_none other d) (with_none never e) = d ∙ sym e

pub lowered_length : (at : Option NamesAt) (octets a : List ℕ) → IsLowered at octets a → length a ≡ length octets
lowered_length at octets a (with_names p f n r is h e) =
    let mid : length (flat_map wire (map folded n)) ≡ length (flat_map wire n) = ap length (sym (folded_wires n h.each)) ∙ length-map (flat_map wire n) folded_octet in
    grind (arith, e, h.parts, mid, length-append)
lowered_length at octets a (with_none other e) = ap length e

-- data whose names are found keeps its octets only if they are in lower case
pub low_names : (at : Option NamesAt) (octets front mid rest : List ℕ) (place : NamesAt) (names : List Labels) → at ≡ Some place → HasNames place octets front names rest → mid ≡ flat_map wire names → IsLowered at octets octets → map folded_octet mid ≡ mid
low_names at octets front mid rest place names is h same stays =
    let low : front ++ (map folded_octet mid ++ rest) ≡ octets = lowered_once at octets (front ++ (map folded_octet mid ++ rest)) octets (lowered_names at octets front mid rest (front ++ (map folded_octet mid ++ rest)) place names is h same refl) stays in
    let cut : map folded_octet mid ++ rest ≡ mid ++ rest = append_cancel_left front (map folded_octet mid ++ rest) (mid ++ rest) (low ∙ h.parts ∙ ap (λ x. front ++ (x ++ rest)) (sym same)) in
    (append_same (map folded_octet mid) mid rest rest (length-map mid folded_octet) cut).0

-- ---- the type that an RRSIG record covers
first_two_alike : (front a b : List ℕ) → 2 ≤ length front → take 2 (front ++ a) ≡ take 2 (front ++ b)
first_two_alike [] a b long = absurd (omega (arith, long))
first_two_alike (c ∷ []) a b long = absurd (omega (arith, long))
first_two_alike (c ∷ d ∷ front) a b long = refl

pub two_kept : (octets low : List ℕ) → IsLowered (names_of 46 octets) octets low → take 2 low ≡ take 2 octets
two_kept octets low (with_names p f n r is h e) =
    let place : names_at 18 (Front 1) ≡ p = one_place (names_at 18 (Front 1)) p is in
    let long : 2 ≤ length f = subst (λ k. 2 ≤ k) (ap (λ q. q.before) place ∙ sym h.before) (omega arith) in
    ap (take 2) e ∙ first_two_alike f _ _ long ∙ ap (take 2) (sym h.parts)
two_kept octets low (with_none other e) = ap (take 2) e
