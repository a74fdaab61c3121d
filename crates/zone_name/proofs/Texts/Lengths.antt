-- The canonical spelling, label by label, and how many octets it has against those in a message.
use Rattle.zone_name.proofs.Common.{EachIndex, IsShown, ap, append_assoc, ap₂, le-leb, refl, slice_index, drop, drop_at, flat_map-append, get_or, length-take-le, sym, take, take-add, take-append-drop, take_at, take_more_put_chunk, ◌<◌, ◌∙◌, suc, ◌++◌, ◌≡◌, ℕ, ◌+◌, ◌*◌, ◌≤◌, List, [], ◌∷◌, length, arith, length-append, flat_map, wire, with_length, octet_text, label_text, name_text}
use Rattle.std.proofs.lemmas.List.{flat_map_more, take-take, take_more}
use Rattle.std.specs.Simd.Lanes.{put_chunk}

octets_length : (label : List ℕ) → length (flat_map octet_text label) ≤ 4 * length label
octets_length [] = omega arith
octets_length (c ∷ label) = grind (arith, octets_length label)

labels_length : (labels : List (List ℕ)) → length (flat_map label_text labels) ≤ 4 * length (flat_map with_length labels)
labels_length [] = omega arith
labels_length (label ∷ labels) = grind (arith, length-append, octets_length, labels_length labels)

-- four for each octet of the name in a message, less three: the root is a dot, and one octet there
pub name_text_length : (labels : List (List ℕ)) → length (name_text labels) + 3 ≤ 4 * length (wire labels)
name_text_length [] = omega arith
name_text_length (label ∷ labels) = omega (arith, labels_length (label ∷ labels), length-append (flat_map with_length (label ∷ labels)) (0 ∷ []))

-- octets that spell themselves
octet_text-shown : (c : ℕ) → IsShown c → octet_text c ≡ c ∷ []
octet_text-shown c shown = grind (arith, le-leb)

pub flat_map_shown : (label : List ℕ) → EachIndex label (λ k. IsShown (slice_index label k)) → flat_map octet_text label ≡ label
flat_map_shown [] each = refl
flat_map_shown (c ∷ label) each = ap₂ (λ (x y : List ℕ). x ++ y) (octet_text-shown c (each 0 (omega arith))) (flat_map_shown label (λ k h. each (suc k) (omega (arith, h))))

-- what a walk over labels has printed, and what is left
pub prints_more : (text : List ℕ) (whole : List ℕ) (left rest : List (List ℕ)) (label : List ℕ) → left ≡ label ∷ rest → text ++ flat_map label_text left ≡ whole → (text ++ label_text label) ++ flat_map label_text rest ≡ whole
prints_more text whole left rest label e so_far = grind (arith, append_assoc)

-- room whose front is a text, and then the first octets of what is put after that text
front_grows : (room next more : List ℕ) (at len : ℕ) → next ≡ put_chunk at room more → at + length more ≤ length room → len ≤ length more → take (at + len) next ≡ take at room ++ take len more
front_grows room next more at len put fits some =
    let front : length (take at room) ≡ at = length-take-le at room (omega (arith, fits)) in
    sym (take-take (at + len) (at + length more) next (omega (arith, some)))
    ∙ ap (take (at + len)) (ap (take (at + length more)) put ∙ take_more_put_chunk at room more (at + length more) refl fits)
    ∙ take-add at len (take at room ++ more)
    ∙ ap₂ (λ (x y : List ℕ). x ++ take len y) (take_at (take at room) more at front) (drop_at (take at room) more at front)

-- one more octet is spelled
pub spells_more : (octets room next more : List ℕ) (at len index : ℕ) → next ≡ put_chunk at room more → length more ≡ 4 → at ≤ 4 * index → 4 * length octets ≤ length room → index < length octets → len ≤ 4 → take len more ≡ octet_text (get_or octets index 0) → take at room ≡ flat_map octet_text (take index octets) → take (at + len) next ≡ flat_map octet_text (take (index + 1) octets)
spells_more octets room next more at len index put four below fits within some is so_far =
    front_grows room next more at len put (omega (arith, four, below, fits, within)) (omega (arith, four, some))
    ∙ ap₂ (λ (x y : List ℕ). x ++ y) so_far is
    ∙ flat_map_more octet_text [] (take index octets) (get_or octets index 0)
    ∙ ap (flat_map octet_text) (sym (take_more octets index 0 within))

-- what a walk over octets has spelled, and what is left
pub spells_part : (text whole rest part after : List ℕ) (n : ℕ) → part ≡ take n rest → after ≡ drop n rest → text ++ flat_map octet_text rest ≡ whole → (text ++ flat_map octet_text part) ++ flat_map octet_text after ≡ whole
spells_part text whole rest part after n front back so_far =
    append_assoc text (flat_map octet_text part) (flat_map octet_text after)
    ∙ ap (λ l. text ++ l) (sym (flat_map-append octet_text part after) ∙ ap (flat_map octet_text) (ap₂ (λ (x y : List ℕ). x ++ y) front back ∙ take-append-drop n rest))
    ∙ so_far
