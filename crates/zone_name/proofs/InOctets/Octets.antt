-- The octets of names: what `labels_of` finds in what `wire` writes.
use Rattle.zone_name.proofs.Common.{common_steps, ◌≡◌, ℕ, zero, suc, ◌+◌, ◌-◌, ◌<◌, ◌≤◌, List, [], ◌∷◌, ◌++◌, length, take, drop, refl, sym, ap, ◌∙◌, subst, arith, append_assoc, length-append, flat_map, AllByRecursion, take_at, drop_at, append-nil, take-append-drop, IsCasedLabel, IsCasedName, IsLabel, IsName, with_length, wire, labels_by, BeginsWithName, HoldsCasedName, HoldsName}
use Rattle.std.proofs.lemmas.List.{length-drop}
use Rattle.zone_name.specs.Name.{labels_of}

-- labels that are not empty
abbrev pub AreSome : List (List ℕ) → Type 0
AreSome labels = AllByRecursion (λ label. 0 < length label) labels

-- what is true of each, where what implies it is
pub AllByRecursion-weaker : {X : Type 0} (P Q : X → Type 0) → ((x : X) → P x → Q x) → (xs : List X) → AllByRecursion P xs → AllByRecursion Q xs
AllByRecursion-weaker P Q implies [] each = tt
AllByRecursion-weaker P Q implies (x ∷ xs) each = (implies x each.0, AllByRecursion-weaker P Q implies xs each.1)

labels_some : (labels : List (List ℕ)) → AllByRecursion IsLabel labels → AreSome labels
labels_some = AllByRecursion-weaker IsLabel (λ label. 0 < length label) (λ label is. is.some)

cased_some : (labels : List (List ℕ)) → AllByRecursion IsCasedLabel labels → AreSome labels
cased_some = AllByRecursion-weaker IsCasedLabel (λ label. 0 < length label) (λ label is. is.some)

-- the labels in frames, and then those in what follows
pub labels_by-frames : (labels : List (List ℕ)) (rest : List ℕ) (m n : ℕ) → m ≡ length labels + n → AreSome labels → labels_by m (flat_map with_length labels ++ rest) ≡ labels ++ labels_by n rest
labels_by-frames [] rest m n fuel each = let e : m ≡ n = omega arith in ap (λ t. labels_by t rest) e
labels_by-frames ([] ∷ labels) rest m n fuel each = absurd (omega (arith, each.0))
labels_by-frames ((c ∷ label) ∷ labels) rest zero n fuel each = absurd (omega arith)
labels_by-frames ((c ∷ label) ∷ labels) rest (suc m) n fuel each =
    grind (arith, common_steps, take_at, drop_at, append_assoc, append_assoc, labels_by-frames labels rest m n)

-- frames are no fewer octets than labels
pub length-frames : (labels : List (List ℕ)) → length labels ≤ length (flat_map with_length labels)
length-frames [] = omega arith
length-frames (label ∷ labels) = grind (arith, length-append, length-frames labels)

-- the fuel of `labels_of` is enough for the labels in frames
pub labels_of-frames : (labels : List (List ℕ)) (rest : List ℕ) → AreSome labels → (n : ℕ) × (labels_of (flat_map with_length labels ++ rest) ≡ labels ++ labels_by n rest)
unfolding labels_of
labels_of-frames labels rest each =
    let n = length (flat_map with_length labels ++ rest) - length labels in
    let fuel : length (flat_map with_length labels ++ rest) ≡ length labels + n = omega (arith, length-frames labels, length-append (flat_map with_length labels) rest) in
    (n, labels_by-frames labels rest (length (flat_map with_length labels ++ rest)) n fuel each)

-- `labels_of` gives back the labels that `wire` writes, whatever follows
pub labels_of-wire_append : (labels : List (List ℕ)) (rest : List ℕ) → AllByRecursion IsLabel labels → labels_of (wire labels ++ rest) ≡ labels
labels_of-wire_append labels rest each = grind (arith, labels_of-frames labels (0 ∷ rest) (labels_some labels each), append_assoc (flat_map with_length labels) (0 ∷ []) rest, append-nil labels)

wire_back : (labels : List (List ℕ)) → AreSome labels → labels_of (wire labels) ≡ labels
wire_back labels each = grind (arith, labels_of-frames labels (0 ∷ []) each, append-nil labels)

pub labels_of-wire : (labels : List (List ℕ)) → AllByRecursion IsLabel labels → labels_of (wire labels) ≡ labels
labels_of-wire labels each = wire_back labels (labels_some labels each)

pub labels_of-wire_cased : (labels : List (List ℕ)) → AllByRecursion IsCasedLabel labels → labels_of (wire labels) ≡ labels
labels_of-wire_cased labels each = wire_back labels (cased_some labels each)

-- frames with no root after them
open_back : (labels : List (List ℕ)) → AreSome labels → labels_of (flat_map with_length labels) ≡ labels
open_back labels each = grind (arith, labels_of-frames labels [] each, append-nil (flat_map with_length labels), append-nil labels)

pub labels_of-open : (labels : List (List ℕ)) → AllByRecursion IsLabel labels → labels_of (flat_map with_length labels) ≡ labels
labels_of-open labels each = open_back labels (labels_some labels each)

pub labels_of-open_cased : (labels : List (List ℕ)) → AllByRecursion IsCasedLabel labels → labels_of (flat_map with_length labels) ≡ labels
labels_of-open_cased labels each = open_back labels (cased_some labels each)

-- the octets of a name are a name
pub HoldsName-wire : (labels : List (List ℕ)) → IsName labels → HoldsName (wire labels)
HoldsName-wire labels name = grind (arith, labels_of-wire)

pub HoldsCasedName-wire : (labels : List (List ℕ)) → IsCasedName labels → HoldsCasedName (wire labels)
HoldsCasedName-wire labels name = grind (arith, labels_of-wire_cased)

-- the octets of a name begin with it, whatever follows
pub BeginsWithName-wire_append : (labels : List (List ℕ)) (rest : List ℕ) → IsName labels → BeginsWithName (wire labels ++ rest)
BeginsWithName-wire_append labels rest name = grind (arith, labels_of-wire_append, take_at)

-- octets that begin with a name, taken apart at their first octet
pub record NextLabel (n : ℕ) (more : List ℕ) (labels : List (List ℕ)) : Type 0 where
  pub fits : n ≤ length more
  pub short : n ≤ 63
  pub cut : labels ≡ take n more ∷ labels_of (drop n more)
  pub rest : BeginsWithName (drop n more)

next_in : (labels : List (List ℕ)) (rest : List ℕ) (n : ℕ) (more : List ℕ) → IsName labels → 0 < n → n ∷ more ≡ wire labels ++ rest → NextLabel n more labels
next_in [] rest n more name positive is = absurd (let e : n ≡ 0 = cc in omega arith)
next_in (label ∷ labels) rest n more name positive is = grind (arith, append_assoc, take_at, drop_at, length-append, labels_of-wire_append)

-- octets that begin with a name are some
pub some_left : (left : List ℕ) → BeginsWithName left → 0 < length left
unfolding labels_of
some_left left begins = grind (arith, common_steps)

pub next_label : (octets : List ℕ) (n : ℕ) (more : List ℕ) → octets ≡ n ∷ more → BeginsWithName octets → 0 < n → NextLabel n more (labels_of octets)
next_label octets n more is begins positive = next_in (labels_of octets) (drop (length (wire (labels_of octets))) octets) n more begins.name positive (sym (rw begins.front at (take-append-drop (length (wire (labels_of octets))) octets) ∙ is))

-- at the root no label is left
pub root_label : (n : ℕ) (more : List ℕ) → n ≡ 0 → labels_of (n ∷ more) ≡ []
unfolding labels_of
root_label n more e = rw e (grind arith)

-- the root's octets, as they are pushed
pub root_held : (octets : List ℕ) → octets ≡ [] ++ 0 ∷ [] → HoldsName octets
root_held octets e = rw e (HoldsName-wire [] (record { each = tt; short = omega arith }))

pub root_held_cased : (octets : List ℕ) → octets ≡ [] ++ 0 ∷ [] → HoldsCasedName octets
root_held_cased octets e = rw e (HoldsCasedName-wire [] (record { each = tt; short = omega arith }))

pub root_has_none : (octets : List ℕ) → octets ≡ [] ++ 0 ∷ [] → labels_of octets ≡ []
root_has_none octets e = ap labels_of e ∙ labels_of-wire [] tt

-- the octets that are cut out at the length of the name are the name
pub front_held : (octets : List ℕ) (len : ℕ) → BeginsWithName octets → len ≡ length (wire (labels_of octets)) → HoldsName (take len octets)
front_held octets len begins e = subst HoldsName (sym (cc)) (HoldsName-wire (labels_of octets) begins.name)

pub front_labels : (octets : List ℕ) (len : ℕ) → BeginsWithName octets → len ≡ length (wire (labels_of octets)) → labels_of (take len octets) ≡ labels_of octets
front_labels octets len begins e = grind (arith, labels_of-wire)

-- each label takes two octets or more
length-frames_twice : (labels : List (List ℕ)) → AllByRecursion IsLabel labels → length labels + length labels ≤ length (flat_map with_length labels)
length-frames_twice [] each = omega arith
length-frames_twice (label ∷ labels) each = omega (arith, each.0.some, length-append label (flat_map with_length labels), length-frames_twice labels each.1)

-- a name has at most 127 labels
pub few_labels : (labels : List (List ℕ)) → IsName labels → length labels ≤ 127
few_labels labels name = grind (arith, length-frames_twice, length-append)

-- fuel for as many octets as there are is enough
labels_by-enough : (m n : ℕ) (octets : List ℕ) → length octets ≤ m → length octets ≤ n → labels_by m octets ≡ labels_by n octets
labels_by-enough zero zero octets enough also = refl
labels_by-enough zero (suc n) [] enough also = refl
labels_by-enough zero (suc n) (c ∷ octets) enough also = absurd (omega (arith, enough))
labels_by-enough (suc m) zero [] enough also = refl
labels_by-enough (suc m) zero (c ∷ octets) enough also = absurd (omega (arith, also))
labels_by-enough (suc m) (suc n) [] enough also = refl
labels_by-enough (suc m) (suc n) (zero ∷ octets) enough also = refl
labels_by-enough (suc m) (suc n) (suc c ∷ octets) enough also =
    grind (arith, common_steps, length-drop, labels_by-enough m n (drop (suc c) octets))

-- the first label, and those that follow it, of any octets
pub labels_of-cons : (len : ℕ) (after : List ℕ) → 0 < len → labels_of (len ∷ after) ≡ take len after ∷ labels_of (drop len after)
unfolding labels_of
labels_of-cons len after some = grind (arith, common_steps, length-drop, labels_by-enough)

pub ruleset names_in_front = (labels_of-wire_append, BeginsWithName-wire_append)

pub ruleset cased_root = (root_held_cased, root_has_none)

pub ruleset names_split = (front_held, front_labels)

pub ruleset folded_root = (root_held, root_has_none)
