-- A text without escapes, whose labels' lengths are written over the dots before them.
use lib.Lanes.{chunk, mask_l, put_chunk}
use Rattle.std.proofs.lemmas.List.{drop-set-lt, map-id}
use Rattle.zone_name.proofs.Common.{common_steps, AllByRecursion, AreOctets, Bool, HoldsCasedLabels, IsCasedName, IsUnit, IsWrittenLabel, List, Ok, TurnsEvens, WritesLengths, Written, [], after_dots, ap, append-nil, append_assoc, ap₂, arith, bytes_decides, dotted, drop, drop_at, drop_more, each_after, eqb-false, eqb-true, false, flat_map, flat_map-append, get_or, get_or-drop, is_dot, is_mark, is_plain, kept, labels_of, length, length-append, length-drop, length-map, length-set, length-take-le, map, map-map, map_push, nat_eq, not, not-true, octet_of, or_parts, parted, plain, pointwise, reading, refl, set, set_at, subst, suc, sym, take, take-append-drop, take_at, take_more_put_chunk, true, with_length, written_octets, written_text, zero, ℕ, ◌++◌, ◌+◌, ◌-◌, ◌*◌, ◌<◌, ◌==◌, ◌∙◌, ◌∷◌, ◌≡◌, ◌≤◌}
use Rattle.zone_name.proofs.InOctets.Evens.{even_bits, pair_at, put_none, put_pair, two_bits}
use Rattle.zone_name.proofs.InOctets.Octets.{labels_of-open_cased}
use Rattle.zone_name.proofs.InOctets.Pushing.{AllByRecursion-append, HoldsCasedLabels-frames, frames_push}
use Rattle.zone_name.proofs.Spelling.Marks.{ArePlainFrom, tells_set}
use Rattle.zone_name.proofs.Spelling.Spelled.{AreShort, Says, finds}
use Rattle.zone_name.proofs.Spelling.Answered.{parted-dotted, reading-says_ok, labels-says_ok}
use Rattle.zone_name.proofs.Texts.Bare.{plain_text}

-- ---- one label more

-- each of the octets at the beginning is plain
abbrev pub ArePlain : List ℕ → ℕ → Type 0
ArePlain text len = (k : ℕ) → k < len → IsUnit is_dot (plain (get_or text k 0))

plain_each : (len : ℕ) (text : List ℕ) → ArePlain text len
    → AllByRecursion (IsUnit is_dot) (map plain (take len text))
plain_each zero text each = tt
plain_each (suc len) [] each = tt
plain_each (suc len) (c ∷ text) each =
    (each 0 (omega arith), plain_each len text (λ k h. each (suc k) (omega (arith, h))))

-- a label of plain octets, whose length takes the place of the dot before it
lengths_label : (old now next label rest : List ℕ) (start : ℕ)
    → WritesLengths old now (46 ∷ (label ++ rest)) → AllByRecursion (IsUnit is_dot) (map plain label)
    → 0 < length label → length label ≤ 63 → length now ≡ start + length (46 ∷ (label ++ rest))
    → next ≡ set now start (length label) → WritesLengths old next rest
lengths_label old now next label rest start w each some short at is =
    let new : List Written = map plain label in
    let all = w.written ++ new ∷ [] in
    let dots = after_dots w.written in
    let frames = flat_map with_length (map written_octets w.written) in
    let front : length frames ≡ start = omega (arith, ap length w.lengths, length-append frames (46 ∷ (label ++ rest))) in
    record {
      written = all;
      each = AllByRecursion-append IsWrittenLabel w.written (new ∷ []) w.each
          (record { some = omega (arith, some, length-map label plain); each = each }, tt);
      short = AllByRecursion-append (λ l. length l ≤ 63) w.written (new ∷ []) w.short
          (omega (arith, short, length-map label plain), tt);
      dots = cc (plain_text label, append_assoc dots (46 ∷ written_text new) rest, append-nil (46 ∷ written_text new), flat_map-append (λ (l : List Written). 46 ∷ written_text l) w.written (new ∷ []));
      lengths = cc (set_at frames 46 (label ++ rest) (length label) start front, append_assoc frames (with_length label) rest, frames_push (map written_octets w.written) label, map-map octet_of plain label, map-id label, map_push written_octets w.written new);
    }

-- ---- octets that are seen to be plain, 16 at a time

-- the label after a dot, by its place
plain_after : (octets : List ℕ) (start end : ℕ) → ArePlainFrom octets (start + 1) end
    → ArePlain (drop (start + 1) octets) (end - start - 1)
plain_after octets start end each k h =
    grind (arith, common_steps, is_dot, plain, get_or-drop, or_parts, not-true, eqb-false)

-- the rest, as it is cut off at its place
cut_at : (old next rest : List ℕ) (n : ℕ) → WritesLengths old next rest → length next ≡ n + length rest
    → WritesLengths old next (drop n next)
cut_at old next rest n w e = grind (arith, length-append, drop_at)

-- the same, of a label that ends at a place
pub lengths_next : (old now next : List ℕ) (start end : ℕ) → WritesLengths old now (drop start now)
    → start < length now → get_or now start 0 ≡ 46 → ArePlainFrom now (start + 1) end
    → end ≤ length now → 0 < end - start - 1 → end - start - 1 ≤ 63
    → next ≡ set now start (end - start - 1) → WritesLengths old next (drop end next)
lengths_next old now next start end w inside dot each back some short is =
    let len = end - start - 1 in
    let tail = drop (start + 1) now in
    let label = take len tail in
    let rest = drop len tail in
    let fits : len ≤ length tail = omega (arith, back, inside, length-drop (start + 1) now) in
    let count = length-take-le len tail fits in
    let left = drop_more now start 0 inside ∙ ap (λ c. c ∷ tail) dot ∙ ap (λ t. 46 ∷ t) (sym (take-append-drop len tail)) in
    cut_at old next rest end (lengths_label old now next label rest start (rw left at w) (plain_each len tail (plain_after now start end each)) (omega (arith, some, count)) (omega (arith, short, count)) (omega (arith, inside, length-drop start now, ap length left)) (cc)) (omega (arith, inside, fits, some, ap length is, length-set now start len, length-drop (start + 1) now, length-drop len tail))

-- the same, of a label of one octet
pub one_written : (old now next : List ℕ) (at : ℕ) → WritesLengths old now (drop at now) → at + 1 < length now → get_or now at 0 ≡ 46
    → is_plain (get_or now (at + 1) 0) ≡ true → next ≡ set now at 1 → WritesLengths old next (drop (at + 2) next)
one_written old now next at w inside dot is_one is =
    lengths_next old now next at (at + 2) w (omega (arith, inside)) dot
    (λ k from to. subst (λ n. is_plain (get_or now n 0) ≡ true) (omega (arith, from, to)) is_one)
    (omega (arith, inside)) (omega arith) (omega arith) (is ∙ ap (set now at) (omega arith))

-- the same, of labels of one octet each, of whose marks the dots before them are all
pub ones_written : (others old now rest : List ℕ) (at : ℕ) → WritesLengths old now (drop at now) → drop at now ≡ each_after 46 others ++ rest
    → mask_l (map is_mark (each_after 46 others)) ≡ even_bits (length others)
    → WritesLengths old (put_chunk at now (each_after 1 others)) (drop (at + 2 * length others) (put_chunk at now (each_after 1 others)))
ones_written [] old now rest at w begins marks = rw (put_none at now) (subst (λ n. WritesLengths old now (drop n now)) (omega arith) w)
ones_written (c ∷ others) old now rest at w begins marks =
    let two = two_bits true (is_mark c) (mask_l (map is_mark (each_after 46 others))) (even_bits (length others)) marks in
    let pair = pair_at at now 46 c (each_after 46 others ++ rest) begins in
    let put = put_pair at now 1 c (each_after 1 others) pair.at_next pair.inside in
    let next = set now at 1 in
    let step = one_written old now next at w pair.inside pair.at_first (ap is_plain pair.at_next ∙ ap not two.1) refl in
    let more = ones_written others old next rest (at + 2) step (drop-set-lt (at + 2) now at 1 (omega arith) ∙ pair.left) two.2 in
    rw (sym put) (subst (λ n. WritesLengths old (put_chunk (at + 2) next (each_after 1 others)) (drop n (put_chunk (at + 2) next (each_after 1 others)))) (omega arith) more)

-- the same, of eight, whose octets were turned at once
pub eight_written : (old now next : List ℕ) (at : ℕ) → WritesLengths old now (drop at now) → TurnsEvens now next at 46 1
    → mask_l (map is_mark (chunk at 16 now)) ≡ even_bits 8 → WritesLengths old next (drop (at + 16) next)
eight_written old now next at w turned marks =
    rw (turned.after) (subst (λ n. WritesLengths old (put_chunk at now (each_after 1 turned.others)) (drop n (put_chunk at now (each_after 1 turned.others)))) (omega (arith, turned.eight))
    (ones_written turned.others old now (drop 16 (drop at now)) at w
    (sym (take-append-drop 16 (drop at now)) ∙ ap (λ t. t ++ drop 16 (drop at now)) turned.before)
    (sym (ap (λ v. mask_l (map is_mark v)) turned.before) ∙ marks ∙ ap even_bits (sym turned.eight))))

-- ---- the whole text

dots-parted : (label : List Written) (labels : List (List Written))
    → after_dots (label ∷ labels) ≡ 46 ∷ parted (label ∷ labels)
dots-parted label [] = append-nil (46 ∷ written_text label)
dots-parted label (next ∷ labels) = cc (dots-parted next labels)

-- a text, and what of it stands before a dot at its end
abbrev pub IsCut : List ℕ → List ℕ → Bool → Type 0
IsCut text front true = text ≡ front ++ 46 ∷ []
IsCut text front false = text ≡ front

pub cut_suffix : (text front : List ℕ) → pointwise nat_eq (drop (length text - 1) text) (46 ∷ []) ≡ true
    → front ≡ take (length text - 1) text → text ≡ front ++ 46 ∷ []
cut_suffix text front dot e = cc (take-append-drop (length text - 1) text, ap₂ (λ (s t : List ℕ). s ++ t) (sym e) ((bytes_decides (drop (length text - 1) text) (46 ∷ [])).0 dot))

says_by : (text front : List ℕ) (is_absolute : Bool) (written : List (List Written))
    → IsCut text front is_absolute → AllByRecursion IsWrittenLabel written → AreShort written
    → 46 ∷ front ≡ after_dots written → Says text (Ok (kept written, is_absolute))
says_by text front is_absolute [] cut each short dots = absurd (cc)
says_by text front true (label ∷ labels) cut each short dots =
    finds dotted text (label ∷ labels) (omega arith) each short (cc (dots-parted label labels, parted-dotted label labels))
says_by text front false (label ∷ labels) cut each short dots =
    finds parted text (label ∷ labels) (omega arith) each short (cc (dots-parted label labels))

-- a room with a dot at its beginning, and a further one
pub dot_first : (room : List ℕ) (at : ℕ) → at < length room → 0 < at → set (set room 0 46) at 46 ≡ 46 ∷ drop 1 (set (set room 0 46) at 46)
dot_first [] at inside some = absurd (omega (arith, inside))
dot_first (c ∷ room) zero inside some = absurd (omega (arith, some))
dot_first (c ∷ room) (suc at) inside some = refl

-- what was read into octets, and what the text reads as
pub record PlainRead (text new : List ℕ) (is_absolute : Bool) : Type 0 where
  pub labels : List (List ℕ)
  pub holds : HoldsCasedLabels new
  pub reads : reading text ≡ Ok (labels, is_absolute)
  pub are : labels_of new ≡ labels

-- what is read in the front of the room that the labels were put in after a dot
pub plain_room : (text front rest before after : List ℕ) (is_absolute : Bool)
    → IsCut text front is_absolute → AreOctets text → length front + 17 ≤ length before
    → length before ≤ 255 → length after ≡ length before → length (46 ∷ rest) ≡ length before
    → before ≡ put_chunk 1 (46 ∷ rest) front
    → WritesLengths before after (drop (length front + 1) after)
    → PlainRead text (take (length front + 1) after) is_absolute
plain_room text front rest before after is_absolute cut octets fits room same long put walk =
    let len = length front + 1 in
    let first : take len before ≡ 46 ∷ front = grind (arith, common_steps, take_more_put_chunk) in
    let w : WritesLengths (take len before) (take len after) [] = grind (arith, common_steps, after_dots, written_octets, length-drop, length-append, take_at, append-nil) in
    let labels = kept w.written in
    let says = says_by text front is_absolute w.written cut w.each w.short (cc (append-nil (after_dots w.written))) in
    let frames : take len after ≡ flat_map with_length labels = w.lengths ∙ append-nil (flat_map with_length labels) in
    let name : IsCasedName labels = record {
      each = labels-says_ok text labels is_absolute octets says;
      short = omega (arith, fits, room, same, length-take-le len after (omega (arith, fits, same)), ap length frames, length-append (flat_map with_length labels) (0 ∷ []));
    } in
    grind (arith, HoldsCasedLabels-frames, reading-says_ok, labels_of-open_cased)

pub ruleset lengths_written = (lengths_next, length-set, tells_set, eqb-true)
