-- A label that is added after others.
use Rattle.zone_name.proofs.Common.{AllByRecursion, AreOctets, Err, HoldsCasedLabels, HoldsLabels, HoldsName, IsCasedLabel, IsCasedName, IsFoldedOctet, IsLabel, IsName, Joins, List, NameTooLong, Ok, [], ap, append-nil, append_assoc, arith, common_steps, Folded, HoldsLabelsBy, Kept, Letters, false, flat_map, flat_map-append, folded, folded_label, folded_octet, get_or, labels_of, le-leb, length, length-append, length-map, lt-leb, map, map-append, lettered_octet, nat_tests, refl, sized, suc, take, take_all, to_ascii_lowercase, true, wire, with_length, ℕ, ◌++◌, ◌+◌, ◌<◌, ◌∙◌, ◌∷◌, ◌≡◌, ◌≤◌}
use Rattle.std.proofs.lemmas.List.{map-id, take-map}
use Rattle.zone_name.proofs.InOctets.Octets.{labels_of-open, labels_of-open_cased, labels_of-wire, HoldsName-wire}

-- each of the octets, by its place
pub AllByRecursion-from_places : (P : ℕ → Type 0) (octets : List ℕ) → ((k : ℕ) → k < length octets → P (get_or octets k 0)) → AllByRecursion P octets
AllByRecursion-from_places P [] each = tt
AllByRecursion-from_places P (c ∷ octets) each = (each 0 (omega arith), AllByRecursion-from_places P octets (λ k h. each (suc k) (omega arith)))

-- what holds of the parts holds of the whole, and the other way round
pub AllByRecursion-append : {X : Type 0} (P : X → Type 0) (xs ys : List X) → AllByRecursion P xs → AllByRecursion P ys → AllByRecursion P (xs ++ ys)
AllByRecursion-append P xs ys left right = grind (arith, common_steps)

pub AllByRecursion-front : {X : Type 0} (P : X → Type 0) (xs ys : List X) → AllByRecursion P (xs ++ ys) → AllByRecursion P xs
AllByRecursion-front P [] ys each = tt
AllByRecursion-front P (x ∷ xs) ys each = (each.0, AllByRecursion-front P xs ys each.1)

pub AllByRecursion-back : {X : Type 0} (P : X → Type 0) (xs ys : List X) → AllByRecursion P (xs ++ ys) → AllByRecursion P ys
AllByRecursion-back P [] ys each = each
AllByRecursion-back P (x ∷ xs) ys each = AllByRecursion-back P xs ys each.1

pub IsFoldedOctet-folded : (c : ℕ) → c < 256 → IsFoldedOctet (folded_octet c)
IsFoldedOctet-folded c h = record { octet = (grind (arith, nat_tests)); lower = (grind (arith, nat_tests)) }

folded_each : (label : List ℕ) → AllByRecursion (λ c. c < 256) label → AllByRecursion IsFoldedOctet (folded_label label)
folded_each [] each = tt
folded_each (c ∷ label) each = (IsFoldedOctet-folded c each.0, folded_each label each.1)

-- a label in lower case is one
pub IsLabel-folded : (label : List ℕ) → 0 < length label → length label ≤ 63 → AllByRecursion (λ c. c < 256) label → IsLabel (folded_label label)
IsLabel-folded label some short each = grind (arith, length-map, folded_each)

-- frames, with one more after them
pub frames_push : (labels : List (List ℕ)) (label : List ℕ) → flat_map with_length (labels ++ label ∷ []) ≡ flat_map with_length labels ++ with_length label
frames_push labels label = grind (arith, flat_map-append, append-nil)

-- frames hold the labels
pub HoldsLabels-frames : (labels : List (List ℕ)) → IsName labels → HoldsLabels (flat_map with_length labels)
HoldsLabels-frames labels name = grind (arith, labels_of-open)

-- no labels
pub HoldsLabels-nil : (octets : List ℕ) → octets ≡ [] → HoldsLabels octets
HoldsLabels-nil octets e = grind (arith, labels_of-open [] tt)

pub labels_of-none : (octets : List ℕ) → octets ≡ [] → labels_of octets ≡ []
labels_of-none octets e = ap labels_of e ∙ labels_of-open [] tt

-- the root's octet makes a name of them
pub HoldsName-finish : (octets new : List ℕ) → HoldsLabels octets → new ≡ octets ++ 0 ∷ [] → HoldsName new
HoldsName-finish octets new holds e = grind (arith, HoldsName-wire (labels_of octets) holds.name)

pub labels_of-finish : (octets new : List ℕ) → HoldsLabels octets → new ≡ octets ++ 0 ∷ [] → labels_of new ≡ labels_of octets
labels_of-finish octets new holds e = grind (arith, labels_of-wire)

-- a length and the octets after it, as they are pushed
pushed_octets : (f : ℕ → ℕ) (octets label pushed new : List ℕ) (n : ℕ) → pushed ≡ octets ++ length label ∷ [] → new ≡ pushed ++ map f (take n label) → length label ≤ n → new ≡ octets ++ with_length (map f label)
pushed_octets f octets label pushed new n first after all = grind (arith, take_all, append_assoc, length-map)

-- frames hold the labels
pub HoldsCasedLabels-frames : (labels : List (List ℕ)) → IsCasedName labels → HoldsCasedLabels (flat_map with_length labels)
HoldsCasedLabels-frames labels name = grind (arith, labels_of-open_cased)

-- what is true of labels and of names, by whether their letters are folded or kept
abbrev pub IsLabelBy : Letters → List ℕ → Type 0
IsLabelBy Kept = IsCasedLabel
IsLabelBy Folded = IsLabel

abbrev pub IsNameBy : Letters → List (List ℕ) → Type 0
IsNameBy Kept = IsCasedName
IsNameBy Folded = IsName

-- labels with one more after them, where there is room
push_name : (letters : Letters) (labels : List (List ℕ)) (label : List ℕ) → IsNameBy letters labels → IsLabelBy letters label → length (flat_map with_length labels) + length label + 2 ≤ 255 → IsNameBy letters (labels ++ label ∷ [])
push_name Kept labels label name is room = grind (arith, common_steps)
push_name Folded labels label name is room = grind (arith, common_steps)

record Pushed (letters : Letters) (octets label new : List ℕ) : Type 0 where
  pub holds : HoldsLabelsBy letters new
  pub gives : labels_of new ≡ labels_of octets ++ label ∷ []

-- the octets of one more label after those that are held
push_frame : (letters : Letters) (octets label new : List ℕ) → HoldsLabelsBy letters octets → IsLabelBy letters label → length octets + length label + 2 ≤ 255 → new ≡ octets ++ with_length label → Pushed letters octets label new
push_frame Kept octets label new holds is room e =
    let name = push_name Kept (labels_of octets) label holds.name is (rw holds.whole room) in
    grind (arith, frames_push, labels_of-open_cased)
push_frame Folded octets label new holds is room e =
    let name = push_name Folded (labels_of octets) label holds.name is (rw holds.whole room) in
    grind (arith, frames_push, labels_of-open)

-- a label whose letters are folded or kept, after those that are held
pub record Joined (letters : Letters) (octets label new : List ℕ) : Type 0 where
  pub holds : HoldsLabelsBy letters new
  pub joins : Joins letters (labels_of octets) label true (labels_of new)

pub label_joined : (letters : Letters) (octets label pushed new : List ℕ) (n : ℕ) → HoldsLabelsBy letters octets → 0 < length label → length label ≤ 63 → AreOctets label → length octets + length label + 2 ≤ 255 → pushed ≡ octets ++ length label ∷ [] → new ≡ pushed ++ map (lettered_octet letters) (take n label) → length label ≤ n → Joined letters octets label new
label_joined Kept octets label pushed new n holds some short each room first after all =
    let p = push_frame Kept octets label new holds (record { some = some; short = short; each = each }) room (rw (map-id label) at (pushed_octets (λ c. c) octets label pushed new n first after all)) in
    record { holds = p.holds; joins = p.gives }
label_joined Folded octets label pushed new n holds some short each room first after all =
    let p = push_frame Folded octets (folded_label label) new holds (IsLabel-folded label some short each) (omega (arith, room, length-map label folded_octet)) (pushed_octets folded_octet octets label pushed new n first after all) in
    record { holds = p.holds; joins = p.gives }

-- a label for which there is no room
held_frames : (letters : Letters) (octets : List ℕ) → HoldsLabelsBy letters octets → flat_map with_length (labels_of octets) ≡ octets
held_frames Kept octets holds = holds.whole
held_frames Folded octets holds = holds.whole

pub left_out : (letters : Letters) (octets label : List ℕ) → HoldsLabelsBy letters octets → 255 < length octets + length label + 2 → Joins letters (labels_of octets) label false (labels_of octets)
left_out letters octets label holds over = (refl, omega (arith, over, ap length (held_frames letters octets holds), ap length (frames_push (labels_of octets) label), length-append (flat_map with_length (labels_of octets)) (with_length label), length-append (flat_map with_length (labels_of octets ++ label ∷ [])) (0 ∷ [])))

-- no labels
HoldsCasedLabels-nil : (octets : List ℕ) → octets ≡ [] → HoldsCasedLabels octets
HoldsCasedLabels-nil octets e = grind (arith, labels_of-open_cased [] tt)

pub held_none : (letters : Letters) (octets : List ℕ) → octets ≡ [] → HoldsLabelsBy letters octets
held_none Kept octets e = HoldsCasedLabels-nil octets e
held_none Folded octets e = HoldsLabels-nil octets e

-- the lengths stay when the letters are folded
pub folded_frames : (labels : List (List ℕ)) → AllByRecursion IsCasedLabel labels → map folded_octet (flat_map with_length labels) ≡ flat_map with_length (folded labels)
folded_frames [] each = refl
folded_frames (label ∷ labels) each = grind (arith, map-append, nat_tests, length-map, folded_frames labels each.1)

pub folded_labels : (labels : List (List ℕ)) → AllByRecursion IsCasedLabel labels → AllByRecursion IsLabel (folded labels)
folded_labels [] each = tt
folded_labels (label ∷ labels) each = (IsLabel-folded label each.0.some each.0.short each.0.each, folded_labels labels each.1)

folded_open : (labels : List (List ℕ)) → length (flat_map with_length (folded labels)) ≡ length (flat_map with_length labels)
folded_open [] = refl
folded_open (label ∷ labels) = grind (arith, length-append, length-map, folded_open labels)

pub folded_size : (labels : List (List ℕ)) → length (wire (folded labels)) ≡ length (wire labels)
folded_size labels = omega (arith, folded_open labels, length-append (flat_map with_length (folded labels)) (0 ∷ []), length-append (flat_map with_length labels) (0 ∷ []))

-- a name's labels have its size
pub sized-name : (labels : List (List ℕ)) → length (wire labels) ≤ 255 → sized labels ≡ Ok labels
sized-name labels short = grind (arith, le-leb)

-- labels over that size are refused
pub sized-long : (labels : List (List ℕ)) → 255 < length (wire labels) → sized labels ≡ Err NameTooLong
sized-long labels long = grind (arith, lt-leb)

-- the letters of a whole room are folded, those of its front too
pub folded_front : (room lower : List ℕ) (len : ℕ) → lower ≡ map to_ascii_lowercase room → take len lower ≡ map folded_octet (take len room)
folded_front room lower len e = grind (arith, take-map)

pub ruleset no_labels = (HoldsLabels-nil, labels_of-none)

pub ruleset root_after_labels = (HoldsName-finish, labels_of-finish)
