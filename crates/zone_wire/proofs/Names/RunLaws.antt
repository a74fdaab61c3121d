-- Runs of labels, the walk that gathers them, and labels that are copied into a room.
use Rattle.zone_wire.proofs.Common.{common_steps, AllByRecursion-append, Bytes, IsCasedLabel, IsLabelAt, IsName, IsRun, List, Option, Some, Spot, [], ap, append-nil, append_assoc, ap₂, arith, at_pointer, bytes_each, drop, folded, folded_label, frames_push, label_at, labels_of, labels_of-open_cased, length, length-append, length-drop, length-take-le, map-append, octets_between, refl, standing_in, sym, take, unwrap_or, with_length, ℕ, ◌++◌, ◌+◌, ◌<◌, ◌∙◌, ◌∷◌, ◌≡◌, ◌≤◌, AllByRecursion, HoldsLabels, HoldsLabels-frames, HoldsLabels-nil, IsLabel, drop-drop, drop_at, flat_map, flat_map-append, folded_frames, folded_labels, folded_octet, labels_of-none, labels_of-open, length-map, length-put_chunk, map, subst, take-add, take-map, take-take, take_at, take_more_put_chunk, ◌-◌, None, outset, past_label, past_pointer, IsRoom, at_label}
use Rattle.zone_wire.proofs.Fields.FieldReading.{between_first, between_join, part_len}
use Rattle.zone_wire.proofs.Names.Walking.{Carries, carries_label, carries_pointer, carries_start, drop_each, label_octets, label_shows, pointer_shows, spots_show, take_each, wire-octets}
use Rattle.std.specs.Char.{to_ascii_lowercase}
use Rattle.std.proofs.lemmas.Slice.{take-put_mid, take-put_mid_below}
use borrow.Rule.Slice.PartMut.{post_of, put_mid}
use lib.Lanes.{chunk, put_chunk}

-- a room of no label
pub no_labels : labels_of [] ≡ []
no_labels = labels_of-none _ refl

pub empty_room : (octets : List ℕ) → 17 ≤ length octets → IsRoom octets 0
empty_room octets room = record { within = room; holds = HoldsLabels-nil _ refl }

-- the octets of a label, as a part of the message
abbrev written : List ℕ → ℕ → ℕ → List ℕ
written message offset size = take size (drop (offset + 1) message)

label_part : (message : List ℕ) (offset size : ℕ) → IsLabelAt message offset size → octets_between message offset (offset + 1 + size) ≡ with_length (written message offset size)
label_part message offset size here = grind (arith, length-take-le, length-drop, between_first)

cased : (message : List ℕ) (offset size : ℕ) → Bytes message → IsLabelAt message offset size → IsCasedLabel (written message offset size)
cased message offset size each here =
    grind (arith, common_steps, length-take-le, length-drop, bytes_each, take_each, drop_each)

-- no label
pub run_start : (message : List ℕ) (start : ℕ) → start ≤ length message → IsRun message start start
run_start message start within = grind (arith, common_steps)

-- a label more
pub run_more : (message : List ℕ) (start past size : ℕ) → Bytes message → IsRun message start past → IsLabelAt message past size → IsRun message start (past + 1 + size)
run_more message start past size each run here =
    let raw = written message past size in
    record {
      labels = run.labels ++ raw ∷ [];
      order = omega (arith, run.order);
      inside = omega (arith, here.inside);
      octets = between_join message start past (past + 1 + size) run.order (omega arith)
          ∙ ap₂ (λ (s t : List ℕ). s ++ t) run.octets (label_part message past size here)
          ∙ sym (frames_push run.labels raw);
      each = AllByRecursion-append IsCasedLabel run.labels (raw ∷ []) run.each (cased message past size each here, tt);
    }

-- the labels of a run are those that its octets hold
pub run_labels : {message : List ℕ} {start past : ℕ} → (run : IsRun message start past) → labels_of (octets_between message start past) ≡ run.labels
run_labels run = ap labels_of run.octets ∙ labels_of-open_cased run.labels run.each

-- ---- the walk of a name so far: the labels of the room, and after them those of the run that it stands in
pub record Gathers (message : List ℕ) (offset : ℕ) (spot : Spot) (labels : List (List ℕ)) (end : Option ℕ) (steps : ℕ) : Type 0 where
  pub all : List (List ℕ)
  pub carries : Carries message offset spot all end steps
  pub run : spot.offset ≤ length message → IsRun message spot.bound spot.offset
  pub joins : spot.offset ≤ length message → all ≡ labels ++ folded (labels_of (octets_between message spot.bound spot.offset))

no_run : (message : List ℕ) (offset : ℕ) (labels : List (List ℕ)) → labels ≡ labels ++ folded (labels_of (octets_between message offset offset))
no_run message offset labels = grind (arith, common_steps, no_labels, append-nil)

pub gathers_start : (message : List ℕ) (offset : ℕ) → Gathers message offset (outset offset) [] None 0
gathers_start message offset = record {
  all = [];
  carries = carries_start message offset;
  run = run_start message offset;
  joins = λ _. no_run message offset [];
}

module _ {message : List ℕ} {offset : ℕ} {spot : Spot} {labels : List (List ℕ)} {end : Option ℕ} {steps : ℕ} (met : Gathers message offset spot labels end steps) where
  -- a run that ends inside the message fits in the room
  pub run_fits : (within : spot.offset ≤ length message) → label_octets labels + (spot.offset - spot.bound) < 255
  run_fits within =
      let run = met.run within in
      let more = labels_of (octets_between message spot.bound spot.offset) in
      omega (
        arith,
        met.carries.short,
        met.carries.octets,
        ap label_octets (met.joins within) ∙ ap length (flat_map-append with_length labels (folded more)) ∙ length-append (flat_map with_length labels) (flat_map with_length (folded more)),
        ap (λ t. length (flat_map with_length (folded t))) (run_labels run) ∙ ap length (sym (folded_frames run.labels run.each)) ∙ length-map (flat_map with_length run.labels) folded_octet ∙ ap length (sym run.octets),
        part_len message spot.bound spot.offset run.inside,
      )

  -- after a label
  pub gathers_label : (size : ℕ) → Bytes message → standing_in message spot ≡ Some (at_label size) → Gathers message offset (past_label spot size) labels end (steps + 1)
  unfolding run_more
  gathers_label size each e =
      let here = (label_shows message spot size e).0 in
      let within : spot.offset ≤ length message = omega (arith, here.inside) in
      let run = met.run within in
      let raw = written message spot.offset size in
      let longer = run_more message spot.bound spot.offset size each run here in
      record {
        all = met.all ++ label_at message spot.offset size ∷ [];
        carries = carries_label size met.carries e;
        run = λ _. longer;
        joins = λ _. ap (λ t. t ++ label_at message spot.offset size ∷ []) (met.joins within ∙ ap (λ t. labels ++ folded t) (run_labels run))
            ∙ append_assoc labels (folded run.labels) (folded_label raw ∷ [])
            ∙ ap (λ t. labels ++ t) (sym (map-append folded_label run.labels (raw ∷ [])) ∙ ap folded (sym (run_labels longer)));
      }

  -- where a pointer leads, the run before it put in the room
  pub gathers_pointer : (target : ℕ) → standing_in message spot ≡ Some (at_pointer target)
      → Gathers message offset (past_pointer spot target) (labels ++ folded (labels_of (octets_between message spot.bound spot.offset))) (Some (unwrap_or end (spot.offset + 2))) (steps + 1)
  gathers_pointer target e =
      let here = (pointer_shows message spot target e).0 in
      let within : spot.offset ≤ length message = omega (arith, here.inside) in
      record {
        all = met.all;
        carries = carries_pointer target met.carries e;
        run = λ inside. run_start message target inside;
        joins = λ _. met.joins within ∙ no_run message target (labels ++ folded (labels_of (octets_between message spot.bound spot.offset)));
      }

-- ---- labels that are copied into a room, and the name that is made of them
-- octets with those of further labels after them, in lower case
pub record Grown (front part new : List ℕ) : Type 0 where
  pub holds : HoldsLabels new
  pub gives : labels_of new ≡ labels_of front ++ folded (labels_of part)

pub grown : (front part new : List ℕ) (labels : List (List ℕ)) → HoldsLabels front → AllByRecursion IsCasedLabel labels → part ≡ flat_map with_length labels
    → length front + length part + 1 ≤ 255 → new ≡ front ++ map folded_octet part → Grown front part new
grown front part new labels holds each e room is =
    let more = folded labels in
    let all = labels_of front ++ more in
    let parts : map folded_octet part ≡ flat_map with_length more = ap (map folded_octet) e ∙ folded_frames labels each in
    let whole : new ≡ flat_map with_length all =
    is ∙ ap₂ (λ (s t : List ℕ). s ++ t) (sym holds.whole) parts ∙ sym (flat_map-append with_length (labels_of front) more) in
    let each_of : AllByRecursion IsLabel all = AllByRecursion-append IsLabel (labels_of front) more holds.name.each (folded_labels labels each) in
    let size : length new ≡ length front + length part = ap length is ∙ length-append front (map folded_octet part) ∙ ap (λ n. length front + n) (length-map part folded_octet) in
    let name : IsName all = record { each = each_of; short = omega (arith, wire-octets all, ap length whole, size, room) } in
    record {
      holds = subst HoldsLabels (sym whole) (HoldsLabels-frames all name);
      gives = ap labels_of whole ∙ labels_of-open all each_of
          ∙ ap (λ t. labels_of front ++ folded t) (sym (ap labels_of e ∙ labels_of-open_cased labels each));
    }

-- the octets of a room with those of a run after them
pub pushed : (message octets new : List ℕ) (len start past : ℕ) (labels : List (List ℕ)) → IsRoom octets len → labels_of (take len octets) ≡ labels
    → (run : IsRun message start past) → label_octets labels + (past - start) < 255
    → take (len + (past - start)) new ≡ take len octets ++ map folded_octet (octets_between message start past)
    → Grown (take len octets) (octets_between message start past) (take (len + (past - start)) new) × (len + (past - start) < 255)
pushed message octets new len start past labels room held run fits is =
    let long : length (take len octets) ≡ len = length-take-le len octets (omega (arith, room.within)) in
    let size : label_octets labels ≡ len = ap label_octets (sym held) ∙ ap length room.holds.whole ∙ long in (
      grown (take len octets) (octets_between message start past) (take (len + (past - start)) new) run.labels room.holds run.each run.octets
          (omega (arith, fits, size, long, part_len message start past run.inside)) is,
      omega (arith, fits, size),
    )

-- so many octets of a message were copied to a place of a room
pub record Copied (message : List ℕ) (start : ℕ) (old now : List ℕ) (at done : ℕ) : Type 0 where
  pub same : length now ≡ length old
  pub front : take (at + done) now ≡ take at old ++ map folded_octet (take done (drop start message))

pub copied_start : (message : List ℕ) (start : ℕ) (old : List ℕ) (at : ℕ) → Copied message start old old at 0
copied_start message start old at = grind (arith, common_steps)

-- and some more of them
copied_on : (message : List ℕ) (start : ℕ) (old now next : List ℕ) (at done n : ℕ) → Copied message start old now at done
    → length next ≡ length now
    → take (at + (done + n)) next ≡ take (at + done) now ++ map folded_octet (take n (drop (start + done) message))
    → Copied message start old next at (done + n)
copied_on message start old now next at done n c same grows =
    grind (arith, take-add, drop-drop, map-append, append_assoc)

pub copied_lanes : (message : List ℕ) (start : ℕ) (old now next : List ℕ) (at done : ℕ) → Copied message start old now at done
    → at + done + 16 ≤ length now → start + done + 16 ≤ length message
    → next ≡ put_chunk (at + done) now (map folded_octet (chunk (start + done) 16 message))
    → Copied message start old next at (done + 16)
copied_lanes message start old now next at done c room part is =
    let octets = take 16 (drop (start + done) message) in
    let lanes = map folded_octet octets in
    let long : length lanes ≡ 16 =
    length-map octets folded_octet ∙ length-take-le 16 (drop (start + done) message) (omega (arith, part, length-drop (start + done) message)) in
    copied_on message start old now next at done 16 c
    (ap length is ∙ length-put_chunk (at + done) now lanes)
    (ap (take (at + (done + 16))) is ∙ take_more_put_chunk (at + done) now lanes (at + (done + 16)) (omega (arith, long)) (omega (arith, room)))

pub copied_all : (message : List ℕ) (start : ℕ) (old now : List ℕ) (at done size : ℕ) → Copied message start old now at done → size ≤ done → at ≤ length old
    → take (at + size) now ≡ take at old ++ map folded_octet (take size (drop start message))
copied_all message start old now at done size c le room =
    let from = drop start message in
    let front = take at old in
    let long : length front ≡ at = length-take-le at old room in
    let back = map folded_octet (take done from) in
    sym (take-take (at + size) (at + done) now (omega (arith, le))) ∙ ap (take (at + size)) c.front
    ∙ take-add at size (front ++ back)
    ∙ ap₂ (λ (s t : List ℕ). s ++ take size t) (take_at front back at long) (drop_at front back at long)
    ∙ ap (λ t. front ++ t) (take-map folded_octet size (take done from) ∙ ap (map folded_octet) (take-take size done from le))

-- letters are put in lower case as those of names are folded
lowered_as_folded : (octets lower : List ℕ) → lower ≡ map to_ascii_lowercase octets → lower ≡ map folded_octet octets
lowered_as_folded octets lower e = grind (arith, length-map)

-- octets of a message that are written to a part of a room, and put in lower case there
pub copied_part : (message room : List ℕ) (start size at k : ℕ) (copied lower : List ℕ) → k ≡ size → start + size ≤ length message → at + size ≤ length room → copied ≡ take size (drop start message)
    → lower ≡ map to_ascii_lowercase (take k (drop at (put_mid at k room copied)))
    → take (at + size) (put_mid at k (put_mid at k room copied) lower) ≡ take at room ++ map folded_octet (take size (drop start message))
copied_part message room start size at k copied lower whole part fits is e =
    let long : length copied ≡ size = ap length is ∙ length-take-le size (drop start message) (omega (arith, length-drop start message)) in
    let front : length (take at room) ≡ at = length-take-le at room (omega arith) in
    let there : take k (drop at (put_mid at k room copied)) ≡ copied = ap (take k) (drop_at (take at room) (copied ++ post_of at k room) at front) ∙ take_at copied (post_of at k room) k (omega (arith, long)) in
    let lowered : lower ≡ map to_ascii_lowercase copied = e ∙ ap (map to_ascii_lowercase) there in
    let low : lower ≡ map folded_octet copied = lowered_as_folded copied lower lowered in
    let size_of : length lower ≡ size = ap length low ∙ length-map copied folded_octet ∙ long in
    take-put_mid at k (put_mid at k room copied) lower (at + size) (omega (arith, size_of)) (omega (arith, front, length-append (take at room) (copied ++ post_of at k room)))
    ∙ ap₂ (λ (s t : List ℕ). s ++ t) (take-put_mid_below at k room copied at (omega arith) (omega arith)) (low ∙ ap (map folded_octet) is)

pub ruleset lanes_are_copied = (copied_all, copied_lanes, copied_start)

pub ruleset name_is_walked = (gathers_start, spots_show)

pub ruleset empty_rooms = (no_labels, empty_room)
