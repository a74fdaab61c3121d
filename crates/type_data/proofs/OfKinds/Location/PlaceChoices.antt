-- Items begin with a latitude or longitude, an altitude or a size, or with none.
use Rattle.std.proofs.lemmas.Bool.{cases_eq}
use Rattle.zone_rdata.proofs.Choices.{Choice, choice_as, choice_both}
use Rattle.zone_rdata.proofs.Items.GenericLaws.{decimal_or_not}
use Rattle.zone_rdata.proofs.Words.OneWord.{same_or_not}
use Rattle.zone_rdata.specs.Item.{bare, quoted}
use Rattle.type_data.proofs.Common.{AllByRecursion, AllByRecursion-back, AreCentimetres, ArePartsOfDegree, BeginsWithAltitude, BeginsWithMinus, BeginsWithPlace, BeginsWithSize, IsAltitude, IsAngle, IsCutAtHalf, IsCutFirst, IsDecimal, IsFirstDigit, IsHalfOf, IsNoHalf, IsScaled, List, OfBareItem, RawItem, UpTo, [], above, ap, arith, below, cases_lt, false, false≢true, folded_label, from_middle, inl, inr, length, letter, most_degrees, refl, subst, suc, sym, true, with_point, without_m, zero, ℕ, ◌*◌, ◌+◌, ◌-◌, ◌/◌, ◌<◌, ◌^◌, ◌∷◌, ◌≡◌, ◌≢◌, ◌≤◌, ◌⊎◌}
use Rattle.type_data.proofs.OfKinds.Number.Read.{decimal_once}
use Rattle.type_data.proofs.OfKinds.Location.Places.{angle_same, bare_same, no_angle, none_above, none_below}
use Rattle.type_data.proofs.OfKinds.Location.Scaled.{scaled_once, scaled_parts, scaled_whole}
use Rattle.type_data.specs.Kinds.Location.{IsSize, whole}
use Rattle.type_data.specs.declared.kinds.location.place.Axis.{Axis}
use Rattle.type_data.specs.declared.kinds.location.place.Half.{Half}
use Rattle.type_data.specs.declared.kinds.location.place.Half.TheVariants.{Upper, Lower}
use Rattle.type_data.proofs.Decided.Cuts.{cut_or_missing}

-- ---- numbers

bare_or_not : (Stated : List ℕ → ℕ → Type 0) → ((text : List ℕ) → Choice (Stated text)) → (item : RawItem) → Choice (OfBareItem Stated item)
bare_or_not Stated one (bare text) = one text
bare_or_not Stated one (quoted text) = inr (λ n is. is)

up_to_or_not : (Is : ℕ → Type 0) (most : ℕ) → ((m n : ℕ) → Is m → Is n → m ≡ n) → Choice Is → Choice (UpTo most Is)
up_to_or_not Is most once (inr none) = inr (λ n h. none n h.0)
up_to_or_not Is most once (inl found) = elim (cases_lt most found.0) [
  | inl over ↦ inr (λ n h. let same = once found.0 n found.1 h.0 in omega (arith, h.1))
  | inr few ↦ inl (found.0, (found.1, few))
]

pointed_or_not : (places : ℕ) (text front back : List ℕ) → IsCutFirst 46 text front back → Choice (IsDecimal front) → Choice (IsDecimal back) → (places < length back) ⊎ (length back ≤ places) → Choice (IsScaled places text)
pointed_or_not places text front back cut (inr none) more size = inr (λ n is. let are = scaled_parts text front back places n cut is in none are.0 are.2.0)
pointed_or_not places text front back cut (inl w) (inr none) size = inr (λ n is. let are = scaled_parts text front back places n cut is in none are.1 are.2.1.0)
pointed_or_not places text front back cut (inl w) (inl part) (inl long) = inr (λ n is. let are = scaled_parts text front back places n cut is in omega (arith, are.2.1.1.0))
pointed_or_not places text front back cut (inl w) (inl part) (inr short) = inl (w.0 * 10 ^ places + part.0 * 10 ^ (places - length back), with_point front back w.0 part.0 cut.parts w.1 part.1 short refl)

scaled_or_not : (places : ℕ) (text : List ℕ) → Choice (IsScaled places text)
scaled_or_not places text = elim (cut_or_missing 46 text) [
  | inl cut ↦ pointed_or_not places text cut.0 cut.1.0 cut.1.1 (decimal_or_not cut.0) (decimal_or_not cut.1.0) (cases_lt places (length cut.1.0))
  | inr missing ↦ choice_as {P = IsDecimal text} {Q = IsScaled places text} (λ (w : ℕ). w * 10 ^ places) (λ w is. whole w is refl) (λ none n is. let more = scaled_whole text places n missing is in none more.0 more.1.0) (decimal_or_not text)
]

centimetres_or_not : (most : ℕ) (text : List ℕ) → Choice (UpTo most (AreCentimetres text))
centimetres_or_not most text = up_to_or_not (AreCentimetres text) most (scaled_once 2 (without_m text)) (scaled_or_not 2 (without_m text))

-- ---- latitude and longitude

whole_or_not : (most : ℕ) (item : RawItem) → Choice (UpTo most (OfBareItem IsDecimal item))
whole_or_not most item = up_to_or_not (OfBareItem IsDecimal item) most (bare_same IsDecimal decimal_once item) (bare_or_not IsDecimal decimal_or_not item)

seconds_or_not : (item : RawItem) → Choice (UpTo 59999 (OfBareItem (IsScaled 3) item))
seconds_or_not item = up_to_or_not (OfBareItem (IsScaled 3) item) 59999 (bare_same (IsScaled 3) (scaled_once 3) item) (bare_or_not (IsScaled 3) (scaled_or_not 3) item)

parts_or_not : (items : List RawItem) → Choice (ArePartsOfDegree items)
parts_or_not [] = inl (0, refl)
parts_or_not (x ∷ []) = choice_as {P = UpTo 59 (OfBareItem IsDecimal x)} {Q = ArePartsOfDegree (x ∷ [])} (λ (m : ℕ). m * 60000) (λ m is. (m, (is.0, (is.1, refl)))) (λ none n are. none are.0 (are.1.0, are.1.1.0)) (whole_or_not 59 x)
parts_or_not (x ∷ y ∷ []) = choice_both {P = UpTo 59 (OfBareItem IsDecimal x)} {Q = UpTo 59999 (OfBareItem (IsScaled 3) y)} {R = ArePartsOfDegree (x ∷ y ∷ [])} (λ (m s : ℕ). m * 60000 + s) (λ m s p q. (m, s, (p.0, (q.0, (p.1, (q.1, refl)))))) (λ n are. ((are.0, (are.2.0, are.2.1.1.0)), (are.1, (are.2.1.0, are.2.1.1.1.0)))) (whole_or_not 59 x) (seconds_or_not y)
parts_or_not (x ∷ y ∷ z ∷ items) = inr (λ n are. are)

angle_or_not : (items : List RawItem) → Choice (IsAngle items)
angle_or_not [] = inr (λ n is. is)
angle_or_not (x ∷ items) = choice_both {P = OfBareItem IsDecimal x} {Q = ArePartsOfDegree items} {R = IsAngle (x ∷ items)} (λ (d part : ℕ). d * 3600000 + part) (λ d part p q. (d, part, (p, (q, refl)))) (λ n is. ((is.0, is.2.0), (is.1, is.2.1.0))) (bare_or_not IsDecimal decimal_or_not x) (parts_or_not items)

neither_half : (axis : Axis) (text : List ℕ) → (folded_label text ≡ letter axis Upper → ⊥) → (folded_label text ≡ letter axis Lower → ⊥) → (half : Half) → folded_label text ≡ letter axis half → ⊥
neither_half axis text a b Upper e = a e
neither_half axis text a b Lower e = b e

half_or_not : (axis : Axis) (item : RawItem) → Choice (IsHalfOf axis item)
half_or_not axis (quoted text) = inr (λ half is. is)
half_or_not axis (bare text) = elim (same_or_not (folded_label text) (letter axis Upper)) [
  | inl upper ↦ inl (Upper, upper)
  | inr other ↦ elim (same_or_not (folded_label text) (letter axis Lower)) [
    | inl lower ↦ inl (Lower, lower)
    | inr none ↦ inr (neither_half axis text other none)
  ]
]

abbrev HalfOrNone : Axis → List RawItem → Type 0
HalfOrNone axis items = ((front : List RawItem) × ((half : Half) × ((rest : List RawItem) × IsCutAtHalf axis items front half rest))) ⊎ AllByRecursion (IsNoHalf axis) items

half_more : (axis : Axis) (item : RawItem) (items : List RawItem) → Choice (IsHalfOf axis item) → HalfOrNone axis items → HalfOrNone axis (item ∷ items)
half_more axis item items (inl found) more =
    inl ([], (found.0, (items, record { item = item; parts = refl; is_half = found.1; none_before = tt })))
half_more axis item items (inr none) (inl (front, (half, (rest, cut)))) =
    inl (item ∷ front, (half, (rest, record { item = cut.item; parts = ap (λ (l : List RawItem). item ∷ l) cut.parts; is_half = cut.is_half; none_before = (none, cut.none_before) })))
half_more axis item items (inr none) (inr all) = inr (none, all)

cut_or_none : (axis : Axis) (items : List RawItem) → HalfOrNone axis items
cut_or_none axis [] = inr tt
cut_or_none axis (item ∷ items) = half_more axis item items (half_or_not axis item) (cut_or_none axis items)

-- ---- what items begin with

-- a number, and the items after it, or nothing
abbrev pub BeginsOrNot : (ℕ → List RawItem → Type 0) → Type 0
BeginsOrNot Begins = ((n : ℕ) × ((rest : List RawItem) × Begins n rest)) ⊎ ((n : ℕ) (rest : List RawItem) → Begins n rest → ⊥)

no_half : (axis : Axis) (items : List RawItem) → AllByRecursion (IsNoHalf axis) items → (n : ℕ) (rest : List RawItem) → BeginsWithPlace axis items n rest → ⊥
no_half axis items none n rest place =
    (AllByRecursion-back (IsNoHalf axis) place.angle_items (place.half_item ∷ rest) (subst (AllByRecursion (IsNoHalf axis)) place.parts none)).0 place.half place.is_half

place_by : (axis : Axis) (items front rest : List RawItem) (half : Half) → IsCutAtHalf axis items front half rest → Choice (UpTo (most_degrees axis * 3600000) (IsAngle front)) → BeginsOrNot (BeginsWithPlace axis items)
place_by axis items front rest half cut (inl angle) =
    inl (from_middle half angle.0, (rest, record { angle_items = front; half_item = cut.item; parts = cut.parts; angle = angle.0; states = angle.1.0; few = angle.1.1; half = half; is_half = cut.is_half; value = refl }))
place_by axis items front rest half cut (inr none) = inr (no_angle axis items front rest half (most_degrees axis) cut refl none)

pub place_or_not : (axis : Axis) (items : List RawItem) → BeginsOrNot (BeginsWithPlace axis items)
place_or_not axis items = elim (cut_or_none axis items) [
  | inl cut ↦ place_by axis items cut.0 cut.1.1.0 cut.1.0 cut.1.1.1 (up_to_or_not (IsAngle cut.0) (most_degrees axis * 3600000) (angle_same cut.0) (angle_or_not cut.0))
  | inr none ↦ inr (no_half axis items none)
]

-- ---- altitude

above_or_not : (text : List ℕ) → (BeginsWithMinus text → ⊥) → Choice (IsAltitude text)
above_or_not text first = elim (centimetres_or_not 4284967295 text) [
  | inl found ↦ inl (10000000 + found.0, above found.0 found.1.0 found.1.1 refl)
  | inr none ↦ inr (none_above text text false (record { parts = refl; first = λ e. first }) refl none)
]

below_or_not : (text rest : List ℕ) → text ≡ 45 ∷ rest → Choice (IsAltitude text)
below_or_not text rest parts = elim (centimetres_or_not 10000000 rest) [
  | inl found ↦ inl (10000000 - found.0, below rest found.0 parts found.1.0 found.1.1 refl)
  | inr none ↦ inr (none_below text rest true (record { parts = parts; first = λ e. absurd (false≢true (sym e)) }) refl none)
]

altitude_or_not : (text : List ℕ) → Choice (IsAltitude text)
altitude_or_not [] = above_or_not [] (λ begins. begins)
altitude_or_not (c ∷ text) = elim (cases_eq c 45) [
  | inl minus ↦ below_or_not (c ∷ text) text (ap (λ (d : ℕ). d ∷ text) minus)
  | inr other ↦ above_or_not (c ∷ text) other
]

pub altitude_begins : (items : List RawItem) → BeginsOrNot (BeginsWithAltitude items)
altitude_begins [] = inr (λ n rest begins. begins)
altitude_begins (item ∷ items) = elim (bare_or_not IsAltitude altitude_or_not item) [
  | inl found ↦ inl (found.0, (items, (found.1, refl)))
  | inr none ↦ inr (λ n rest begins. none n begins.0)
]

-- ---- sizes

first_digit : (power c : ℕ) → power ≤ 9 → c < 10 ^ (power + 1) → (n : ℕ) × IsFirstDigit c n
first_digit zero c few under = (c / 10 ^ 0 * 16 + 0, record { power = 0; few = omega arith; first = inl refl; below = under; value = refl })
first_digit (suc power) c few under = elim (cases_lt c (10 ^ (power + 1))) [
  | inl less ↦ first_digit power c (omega arith) less
  | inr least ↦ (c / 10 ^ suc power * 16 + suc power, record { power = suc power; few = few; first = inr (let e : 10 ^ (power + 1) ≡ 10 ^ suc power = ap (λ (k : ℕ). 10 ^ k) (omega arith) in omega arith); below = under; value = refl })
]

size_or_not : (text : List ℕ) → Choice (IsSize text)
size_or_not text = elim (centimetres_or_not 9000000000 text) [
  | inl found ↦ (let digit = first_digit 9 found.0 (omega arith) (omega (arith, found.1.1)) in inl (digit.0, (found.0, (found.1.0, (found.1.1, digit.1)))))
  | inr none ↦ inr (λ n is. none is.0 (is.1.0, is.1.1.0))
]

pub size_begins : (usual : ℕ) (items : List RawItem) → BeginsOrNot (BeginsWithSize usual items)
size_begins usual [] = inl (usual, ([], (refl, refl)))
size_begins usual (item ∷ items) = elim (bare_or_not IsSize size_or_not item) [
  | inl found ↦ inl (found.0, (items, (found.1, refl)))
  | inr none ↦ inr (λ n rest begins. none n begins.0)
]
