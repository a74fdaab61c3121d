-- The spelling of a whole name: a dot over each length, where the octets of all labels spell
-- themselves.
use Rattle.std.proofs.lemmas.List.Sums.{count_by-le-length, sum_by-append, sum_by-cons}
use Rattle.zone_name.proofs.Common.{common_steps, AllByRecursion, BeginsWithName, Bool, HoldsName, IsLabel, List, TurnsFront, [], and_parts, ap, ap₂, append-nil, append_assoc, arith, cases_Bool, cond, count_by, drop, drop_at, each_after, false, flat_map, flat_map-append, get_or, is_odd, label_text, labels_of, length, length-append, length-map, length-take, map, name_text, octet_text, put_chunk_is, refl, set, set_at, sym, take, take-add, take-append-drop, take_at, wire, with_length, ℕ, ◌++◌, ◌+◌, ◌-◌, ◌/◌, ◌<◌, ◌∙◌, ◌∷◌, ◌≡◌, ◌≤◌}
use Rattle.std.proofs.lemmas.List.{get_or_at}
use lib.Lanes.{put_chunk}
use Rattle.zone_name.proofs.InOctets.Evens.{length-each_after}
use Rattle.zone_name.proofs.InOctets.Octets.{BeginsWithName-wire_append, labels_of-wire_append}

-- each label after a dot
abbrev pub after_dots : List (List ℕ) → List ℕ
after_dots labels = flat_map (λ label. 46 ∷ label) labels

-- ---- the walk that writes a dot over the length of each label: over those of some, not yet of the
-- others

pub record Walk (old now : List ℕ) (at labels : ℕ) (done left : List (List ℕ)) : Type 0 where
  pub whole : labels_of old ≡ done ++ left
  pub each : AllByRecursion IsLabel left
  pub parts : now ≡ after_dots done ++ (wire left ++ drop (length (wire (labels_of old))) old)
  pub place : length (after_dots done) ≡ at
  pub count : labels ≡ length done

abbrev pub Dotted : List ℕ → List ℕ → ℕ → ℕ → Type 0
Dotted old now at labels = (done : List (List ℕ)) × (left : List (List ℕ)) × Walk old now at labels done left

-- the labels of one octet that come first, and those after them
record Ones (left : List (List ℕ)) (others rest more : List ℕ) : Type 0 where
  pub after : List (List ℕ)
  pub whole : left ≡ map (λ c. c ∷ []) others ++ after
  pub each : AllByRecursion IsLabel after
  pub parts : wire after ++ rest ≡ more

ones_first : (left : List (List ℕ)) (others rest more : List ℕ) → AllByRecursion IsLabel left → wire left ++ rest ≡ each_after 1 others ++ more
    → Ones left others rest more
ones_first left [] rest more each e = record { after = left; whole = refl; each = each; parts = e }
ones_first [] (c ∷ others) rest more each e = absurd (cc)
ones_first ([] ∷ left) (c ∷ others) rest more each e = absurd (cc)
ones_first ((x ∷ (y ∷ label)) ∷ left) (c ∷ others) rest more each e = absurd (cc)
ones_first ((x ∷ []) ∷ left) (c ∷ others) rest more each e =
    let o = ones_first left others rest more each.1 (cc) in
    record { after = o.after; whole = cc (o.whole); each = o.each; parts = o.parts }

dots_after_ones : (others : List ℕ) → after_dots (map (λ c. c ∷ []) others) ≡ each_after 46 others
dots_after_ones [] = refl
dots_after_ones (c ∷ others) = cc (dots_after_ones others)

pub dotted_ones : (old now : List ℕ) (at : ℕ) → BeginsWithName old → TurnsFront old now at 1 46 → Dotted old now at (at / 2)
dotted_ones old now at begins turned =
    let rest = drop (length (wire (labels_of old))) old in
    let whole : wire (labels_of old) ++ rest ≡ old = ap (λ t. t ++ rest) (sym begins.front) ∙ take-append-drop (length (wire (labels_of old))) old in
    let ones = ones_first (labels_of old) turned.others rest (drop at old) begins.name.each (whole ∙ turned.before) in
    let done = map (λ c. c ∷ []) turned.others in
    let dots = dots_after_ones turned.others in (
      done,
      ones.after,
      record {
        whole = ones.whole;
        each = ones.each;
        parts = turned.after ∙ ap₂ (λ (s t : List ℕ). s ++ t) (sym dots) (sym ones.parts);
        place = omega (arith, ap length dots, length-each_after 46 turned.others, turned.place);
        count = omega (arith, turned.place, length-map turned.others (λ c. c ∷ []));
      },
    )

pub dotted_more : (old now next : List ℕ) (at labels : ℕ) (done left : List (List ℕ)) → Walk old now at labels done left → (get_or now at 0 ≡ 0 → ⊥)
    → next ≡ set now at 46 → Dotted old next (at + (get_or now at 0 + 1)) (labels + 1)
dotted_more old now next at labels done [] w some is = absurd (some (cc (get_or_at (after_dots done) 0 (drop (length (wire (labels_of old))) old) 0 at w.place)))
dotted_more old now next at labels done (label ∷ left) w some is =
    let rest = wire left ++ drop (length (wire (labels_of old))) old in
    let shape : now ≡ after_dots done ++ length label ∷ (label ++ rest) = cc (append_assoc label (flat_map with_length left) (0 ∷ []), append_assoc label (wire left) (drop (length (wire (labels_of old))) old)) in
    let first : get_or now at 0 ≡ length label = cc (get_or_at (after_dots done) (length label) (label ++ rest) 0 at w.place) in
    let front : after_dots (done ++ label ∷ []) ≡ after_dots done ++ 46 ∷ label = cc (flat_map-append (λ (l : List ℕ). 46 ∷ l) done (label ∷ []), append-nil (46 ∷ label)) in (
      done ++ label ∷ [],
      left,
      record {
        whole = w.whole ∙ sym (append_assoc done (label ∷ []) left);
        each = w.each.1;
        parts = cc (set_at (after_dots done) (length label) (label ++ rest) 46 at w.place, append_assoc (after_dots done) (46 ∷ label) rest);
        place = omega (arith, ap length front, length-append (after_dots done) (46 ∷ label), w.place, first);
        count = omega (arith, w.count, length-append done (label ∷ []));
      },
    )

-- the dot over the root, and how many labels there were
abbrev pub IsDotted : List ℕ → List ℕ → ℕ → Type 0
IsDotted old new labels =
    (new ≡ after_dots (labels_of old) ++ 46 ∷ drop (length (wire (labels_of old))) old)
    × (labels ≡ length (labels_of old))

pub dotted_end : (old now next : List ℕ) (at labels : ℕ) (done left : List (List ℕ)) → Walk old now at labels done left → get_or now at 0 ≡ 0
    → next ≡ set now at 46 → IsDotted old next labels
dotted_end old now next at labels done [] w root is =
    (cc (set_at (after_dots done) 0 (drop (length (wire (labels_of old))) old) 46 at w.place, append-nil done), cc (append-nil done, w.count))
dotted_end old now next at labels done (label ∷ left) w root is =
    grind (arith, common_steps, get_or_at, append_assoc)

-- ---- how many octets don't spell themselves

count_append : (p : ℕ → Bool) (xs ys : List ℕ) → count_by p (xs ++ ys) ≡ count_by p xs + count_by p ys
count_append p xs ys = sum_by-append (λ x. cond (p x) 1 0) xs ys

count_cons : (p : ℕ → Bool) (x : ℕ) (xs : List ℕ) → count_by p (x ∷ xs) ≡ cond (p x) 1 0 + count_by p xs
count_cons p x xs = sum_by-cons (λ y. cond (p y) 1 0) x xs

pub odd_more : (octets : List ℕ) (at n odd more : ℕ) → odd ≡ count_by is_odd (take at octets)
    → more ≡ count_by is_odd (take n (drop at octets)) → odd + more ≡ count_by is_odd (take (at + n) octets)
odd_more octets at n odd more count next =
    omega (arith, count, next, ap (count_by is_odd) (take-add at n octets), count_append is_odd (take at octets) (take n (drop at octets)))

-- no more than octets
pub few_odd : (octets : List ℕ) (at n odd : ℕ) → odd ≡ count_by is_odd (take n (drop at octets)) → odd ≤ n
few_odd octets at n odd count = omega (arith, count, count_by-le-length is_odd (take n (drop at octets)), length-take n (drop at octets))

-- ---- the text

-- an octet that spells itself
shown_octet : (c : ℕ) → is_odd c ≡ false → octet_text c ≡ c ∷ []
shown_octet c shown = grind (arith, cases_Bool, and_parts)

shown_label : (label : List ℕ) → count_by is_odd label ≡ 0 → flat_map octet_text label ≡ label
shown_label [] none = refl
shown_label (c ∷ label) none = grind (arith, common_steps, count_cons, shown_octet, shown_label label)

dots_count : (label : List ℕ) (labels : List (List ℕ)) → count_by is_odd (after_dots (label ∷ labels)) ≡ 1 + (count_by is_odd label + count_by is_odd (after_dots labels))
dots_count label labels = count_cons is_odd 46 (label ++ after_dots labels) ∙ ap (λ n. 1 + n) (count_append is_odd label (after_dots labels))

enough_dots : (labels : List (List ℕ)) → length labels ≤ count_by is_odd (after_dots labels)
enough_dots [] = omega arith
enough_dots (label ∷ labels) = omega (arith, dots_count label labels, enough_dots labels)

-- none but the dots before the labels
shown_text : (labels : List (List ℕ)) → count_by is_odd (after_dots labels) ≤ length labels
    → after_dots labels ++ 46 ∷ [] ≡ 46 ∷ flat_map label_text labels
shown_text [] few = refl
shown_text (label ∷ labels) few =
    grind (arith, common_steps, dots_count, enough_dots labels, shown_label, append_assoc, shown_text labels)

-- ---- a name at the beginning of more octets

-- the room that a name was put in
pub put_front : (old name room : List ℕ) → length name ≤ length old → room ≡ put_chunk 0 old name → room ≡ name ++ drop (length name) room
put_front old name room fits e = grind (arith, common_steps, put_chunk_is, drop_at)

pub begins_with : (name old : List ℕ) → HoldsName name → old ≡ name ++ drop (length name) old → BeginsWithName old
begins_with name old holds is =
    grind (arith, common_steps, BeginsWithName-wire_append)

dots_length : (labels : List (List ℕ)) → length (after_dots labels) ≡ length (flat_map with_length labels)
dots_length [] = refl
dots_length (label ∷ labels) =
    omega (arith, length-append label (after_dots labels), length-append label (flat_map with_length labels), dots_length labels)

-- those in front are no more than those that were counted
front_seen : (front rest : List ℕ) (seen odd : ℕ) → length front ≤ seen
    → odd ≡ count_by is_odd (take seen (front ++ rest)) → count_by is_odd front ≤ odd
front_seen front rest seen odd enough count =
    grind (arith, common_steps, take-add (length front) (seen - length front) (front ++ rest), take_at, drop_at, count_append)

-- those that were counted in the text and some octets after it are the dots of the labels alone
text_whole : (labels : List (List ℕ)) (rest : List ℕ) (seen odd : ℕ) → 1 < length (wire labels) → length (wire labels) ≤ seen
    → odd ≡ count_by is_odd (take seen (after_dots labels ++ 46 ∷ rest)) → odd ≡ length labels + 1
    → take (length (wire labels)) (after_dots labels ++ 46 ∷ rest) ≡ 46 ∷ name_text labels
text_whole labels rest seen odd some enough count same =
    let front = after_dots labels ++ 46 ∷ [] in
    let parts : after_dots labels ++ 46 ∷ rest ≡ front ++ rest = sym (append_assoc (after_dots labels) (46 ∷ []) rest) in
    let size : length front ≡ length (wire labels) =
    omega (arith, dots_length labels, length-append (after_dots labels) (46 ∷ []), length-append (flat_map with_length labels) (0 ∷ [])) in
    grind (arith, common_steps, front_seen front rest seen odd, count_append, take_at, shown_text)

pub spelled_whole : (name old new : List ℕ) (labels seen odd : ℕ) → HoldsName name → 1 < length name
    → old ≡ name ++ drop (length name) old → IsDotted old new labels → length name ≤ seen
    → odd ≡ count_by is_odd (take seen new) → odd ≡ labels + 1
    → take (length name) new ≡ 46 ∷ name_text (labels_of name)
spelled_whole name old new labels seen odd holds some begins dotted enough count same =
    grind (arith, common_steps, labels_of-wire_append, text_whole, is_odd, count_by)
