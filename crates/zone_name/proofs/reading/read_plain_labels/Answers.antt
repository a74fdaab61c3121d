use Rattle.zone_name.proofs.Common.{arith, drop, length, length-set, lettered, ap, refl, set, take, ◌+◌, ◌<◌, ◌∙◌, ◌≡◌}
use Rattle.zone_name.proofs.Spelling.Plain.{IsCut, PlainRead, cut_suffix, dot_first, plain_room}
use Rattle.zone_name.proofs.InOctets.Pushing.{AllByRecursion-from_places}
use Rattle.zone_name.proofs.reading.read_plain_labels.Goals as goal
use lib.Lanes.{put_chunk}
use Rattle.zone_name.proofs.reading.read_plain_labels.Goals.{in-Some, in-None}

cut : (c : goal.After-slice_known-4-1)
    → IsCut c.args.text.now c.match-strip_suffix.is_absolute.0.now c.match-strip_suffix.is_absolute.1
cut c = elim c.match-strip_suffix.branch [
  | in-Some w ↦ rw w.is_absolute-is (cut_suffix _ _ w.in-Some.ensures.cases.0 w.in-Some.ensures.cases.1)
  | in-None w ↦ rw w.is_absolute-is (refl)
]

whole : (c : goal.After-slice_known-4-1)
    → PlainRead c.args.text.now (take (length c.match-strip_suffix.is_absolute.0.now + 1) c.write_lengths.new.octets) c.match-strip_suffix.is_absolute.1
whole c =
    let text = c.args.text.now in
    let front = c.match-strip_suffix.is_absolute.0.now in
    let len = length front + 1 in
    let room = c.args.room.now in
    let dotted = set (set room 0 46) len 46 in
    let long = c.put.auto.room in
    let same : length c.put.new.room ≡ length room = omega (arith, long, length-set room 0 46, length-set (set room 0 46) len 46) in
    let first = dot_first room len (omega (arith, c.if-len-room.false)) (omega arith) in
    plain_room text front (drop 1 dotted) c.put.new.room c.write_lengths.new.octets c.match-strip_suffix.is_absolute.1 (cut c)
    (AllByRecursion-from_places (λ x. x < 256) text (λ k h. let f = c.type_inv.text k in omega arith))
    (omega (arith, c.if-len-room.false, same)) (omega (arith, c.requires, same)) c.write_lengths.auto.octets (omega (arith, ap length first, long)) (c.put.ensures ∙ ap (λ r. put_chunk 1 r front) first) (c.if-not-write_lengths.ensures refl)

pub returns : goal.returns
returns c =
    let done = whole c in
    let room = c.args.room.now in
    let dotted = set room 0 46 in
    record { within = omega (arith, c.if-len-room.false, c.set_front.auto.octets, c.write_lengths.auto.octets, c.put.auto.room, length-set room 0 46, length-set dotted (length c.match-strip_suffix.is_absolute.0.now + 1) 46); holds = c.set_front.ensures.holds done.holds; labels = (done.labels, done.reads, c.set_front.ensures.labels done.holds ∙ ap (lettered c.args.letters) done.are) }
