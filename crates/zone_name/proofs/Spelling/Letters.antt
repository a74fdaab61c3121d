-- Names whose letters are folded or kept when they are read.
use Rattle.zone_name.proofs.Common.{Bool, Err, Folded, HoldsCasedLabels, HoldsLabelsBy, HoldsNameBy, IfSome, IsReadBy, Kept, Letters, List, NameTooLong, None, Ok, Option, Some, Written, [], ap, append-nil, append_assoc, arith, common_steps, false, flat_map, flat_map-append, folded, folded_octet, kept, labels_of, length, length-append, length-take, lettered, lettered_in, map, name_read, origin_in, sized, sym, take, true, under_origin, wire, with_length, ℕ, ◌++◌, ◌+◌, ◌<◌, ◌∙◌, ◌∷◌, ◌≡◌, ◌≤◌}
use Rattle.zone_name.specs.declared.reading.Spelled.{Spelled}
use Rattle.zone_name.proofs.InOctets.Octets.{HoldsCasedName-wire, HoldsName-wire, labels_of-open, root_has_none, labels_of-wire, labels_of-wire_cased, root_held_cased, root_held}
use Rattle.zone_name.proofs.InOctets.Pushing.{IsNameBy, folded_frames, folded_labels, folded_size, sized-name, sized-long}

-- what a text's labels are, by whether their letters are folded or kept, and what is true of them
abbrev pub taken_by : Letters → List (List Written) → List (List ℕ)
taken_by letters written = lettered letters (kept written)

-- labels whose letters are folded or kept
pub record SetLetters (letters : Letters) (octets new : List ℕ) : Type 0 where
  pub holds : HoldsLabelsBy letters new
  pub gives : labels_of new ≡ lettered letters (labels_of octets)

pub fold_letters : (octets new : List ℕ) → HoldsCasedLabels octets → new ≡ map folded_octet octets → SetLetters Folded octets new
fold_letters octets new holds e =
    grind (arith, common_steps, folded_labels, folded, folded_frames, folded_size, labels_of-open)

-- the octets of labels, and of a name after them
wire_joined : (letters : Letters) (octets others : List ℕ) → HoldsLabelsBy letters octets → HoldsNameBy letters others → wire (labels_of octets ++ labels_of others) ≡ octets ++ others
wire_joined Kept octets others holds name = cc (flat_map-append with_length (labels_of octets) (labels_of others), append_assoc (flat_map with_length (labels_of octets)) (flat_map with_length (labels_of others)) (0 ∷ []), holds.whole, name.whole)
wire_joined Folded octets others holds name = cc (flat_map-append with_length (labels_of octets) (labels_of others), append_assoc (flat_map with_length (labels_of octets)) (flat_map with_length (labels_of others)) (0 ∷ []), holds.whole, name.whole)

name_joined : (letters : Letters) (octets others : List ℕ) → HoldsLabelsBy letters octets → HoldsNameBy letters others → length (wire (labels_of octets ++ labels_of others)) ≤ 255 → IsNameBy letters (labels_of octets ++ labels_of others)
name_joined Kept octets others holds name room = grind (arith, common_steps)
name_joined Folded octets others holds name room = grind (arith, common_steps)

pub joined_long : (octets others : List ℕ) → 255 < length octets + length others → (letters : Letters) → HoldsLabelsBy letters octets → HoldsNameBy letters others → sized (labels_of octets ++ labels_of others) ≡ Err NameTooLong
joined_long octets others over letters holds name = sized-long (labels_of octets ++ labels_of others) (omega (arith, over, length-append octets others, ap length (wire_joined letters octets others holds name)))

pub held_name : (letters : Letters) (octets : List ℕ) → HoldsNameBy letters octets → IsNameBy letters (labels_of octets)
held_name Kept octets holds = holds.name
held_name Folded octets holds = holds.name

-- a name's labels have its size
pub sized_by : (letters : Letters) (labels : List (List ℕ)) → IsNameBy letters labels → sized labels ≡ Ok labels
sized_by Kept labels name = sized-name labels name.short
sized_by Folded labels name = sized-name labels name.short

-- the octets of a name after labels
held_wire : (letters : Letters) (labels : List (List ℕ)) → IsNameBy letters labels → HoldsNameBy letters (wire labels) × (labels_of (wire labels) ≡ labels)
held_wire Kept labels name = grind (arith, HoldsCasedName-wire, labels_of-wire_cased)
held_wire Folded labels name = grind (arith, HoldsName-wire, labels_of-wire)

pub ended_with : (letters : Letters) (octets ending new : List ℕ) → HoldsLabelsBy letters octets → HoldsNameBy letters ending → new ≡ octets ++ ending → length octets + length ending ≤ 255 → HoldsNameBy letters new × (sized (labels_of octets ++ labels_of ending) ≡ Ok (labels_of new))
ended_with letters octets ending new holds name is room =
    let whole = wire_joined letters octets ending holds name in
    let both = name_joined letters octets ending holds name (omega (arith, ap length whole, length-append octets ending)) in
    let held = held_wire letters (labels_of octets ++ labels_of ending) both in
    (rw (is ∙ sym whole) held.0, cc (sized_by letters (labels_of octets ++ labels_of ending) both, held.1))

-- the root is a name, however letters are taken
pub root_holds : (letters : Letters) (octets : List ℕ) → octets ≡ [] ++ 0 ∷ [] → HoldsNameBy letters octets
root_holds Folded octets e = root_held octets e
root_holds Kept octets e = root_held_cased octets e

-- labels take as many octets with letters folded
pub lettered_size : (letters : Letters) (labels : List (List ℕ)) → length (wire (lettered letters labels)) ≡ length (wire labels)
lettered_size letters labels = grind (arith, common_steps, folded_size)

-- what ends the name of the labels that were spelled: the root, or the origin
pub record Ends (origin : Option (List ℕ)) (is_absolute : Bool) (ending : List ℕ) : Type 0 where
  pub under : (labels : List (List ℕ)) → under_origin (origin_in origin) (Ok (labels, is_absolute)) ≡ sized (labels ++ labels_of ending)
  pub name : (letters : Letters) → IfSome origin (HoldsNameBy letters) → HoldsNameBy letters ending

pub ends_root : (origin : Option (List ℕ)) (is_absolute : Bool) → is_absolute ≡ true → Ends origin is_absolute (0 ∷ [])
ends_root origin is_absolute absolute =
    grind (arith, common_steps, root_has_none, sized, append-nil, root_holds)

pub ends_above : (origin : Option (List ℕ)) (above : List ℕ) (is_absolute : Bool) → is_absolute ≡ false → origin ≡ Some above → Ends origin is_absolute above
ends_above origin above is_absolute relative is = grind (arith, common_steps)

-- the octets of labels after others
pub joined_size : (labels above : List (List ℕ)) → length (wire (labels ++ above)) + 1 ≡ length (wire labels) + length (wire above)
joined_size labels above = omega (arith, ap length (flat_map-append with_length labels above), length-append (flat_map with_length labels) (flat_map with_length above), length-append (flat_map with_length labels) (0 ∷ []), length-append (flat_map with_length above) (0 ∷ []), length-append (flat_map with_length (labels ++ above)) (0 ∷ []))

-- ---- the name that is made of what was read

module _ (letters : Letters) (origin : Option (List ℕ)) (text octets : List ℕ) (spelled : Spelled)
    (read : IsReadBy letters text octets spelled)
    (ending : List ℕ) (ends : Ends origin spelled.is_absolute ending) where
  read_under : name_read letters (origin_in origin) text ≡ sized (lettered letters read.0 ++ labels_of ending)
  read_under = ap (λ r. under_origin (origin_in origin) (lettered_in letters r)) read.1 ∙ ends.under (lettered letters read.0)

  held_under : spelled.is_too_long ≡ false → name_read letters (origin_in origin) text ≡ sized (labels_of octets ++ labels_of ending)
  held_under short = read_under ∙ ap (λ ls. sized (ls ++ labels_of ending)) (sym (rw short at read.2))

  pub long_labels : spelled.is_too_long ≡ true → name_read letters (origin_in origin) text ≡ Err NameTooLong
  long_labels long = read_under ∙ sized-long (lettered letters read.0 ++ labels_of ending) (omega (arith, rw long at read.2, joined_size (lettered letters read.0) (labels_of ending), length-append (flat_map with_length (labels_of ending)) (0 ∷ [])))

  pub long_ending : HoldsLabelsBy letters octets → IfSome origin (HoldsNameBy letters) → spelled.is_too_long ≡ false → 255 < length octets + length ending → name_read letters (origin_in origin) text ≡ Err NameTooLong
  long_ending holds known short over = held_under short ∙ joined_long octets ending over letters holds (ends.name letters known)

  pub named : (new : List ℕ) → HoldsLabelsBy letters octets → IfSome origin (HoldsNameBy letters) → spelled.is_too_long ≡ false → new ≡ octets ++ ending → length octets + length ending ≤ 255 → HoldsNameBy letters new × (name_read letters (origin_in origin) text ≡ Ok (labels_of new))
  named new holds known short is room =
      let both = ended_with letters octets ending new holds (ends.name letters known) is room in
      (both.0, held_under short ∙ both.1)

-- where an ending that there is room for comes after the labels
pub ended_name : (letters : Letters) (origin : Option (List ℕ)) (text octets ending room : List ℕ) (spelled : Spelled) (result : Option ℕ) → HoldsLabelsBy letters octets → IsReadBy letters text octets spelled → IfSome origin (HoldsNameBy letters) → Ends origin spelled.is_absolute ending → spelled.is_too_long ≡ false → length room ≤ 255 → IfSome result (λ n. n ≤ length room) → IfSome result (λ n. take n room ≡ octets ++ ending) → IfSome result (λ n. HoldsNameBy letters (take n room) × (name_read letters (origin_in origin) text ≡ Ok (labels_of (take n room))))
ended_name letters origin text octets ending room spelled (Some n) holds read known ends short fits within is =
    named letters origin text octets spelled read ending ends (take n room) holds known short is (omega (arith, fits, within, length-take n room, ap length is, length-append octets ending))
ended_name letters origin text octets ending room spelled None holds read known ends short fits within is = tt

-- ---- what is known of octets that hold a name

pub held_short : (letters : Letters) (octets : List ℕ) → HoldsNameBy letters octets → length octets ≤ 255
held_short Kept octets holds = rw holds.whole at holds.name.short
held_short Folded octets holds = rw holds.whole at holds.name.short

pub held_origin : (letters : Letters) (origin : Option (List ℕ)) → IfSome origin (HoldsNameBy letters) → IfSome (origin_in origin) (IsNameBy letters)
held_origin letters origin known = grind (arith, common_steps, held_name)
