use Rattle.zone_name.proofs.Common.{[], ap, arith, false, option_copied, refl, take, ◌∷◌}
use Rattle.zone_name.proofs.Spelling.Letters.{ended_name, ends_above, ends_root}
use Rattle.zone_name.proofs.reading.read_plain.Goals as goal

pub returns-then-plain-clause-name : goal.returns-then-plain-clause-name
returns-then-plain-clause-name c =
    let plain = c.in_ok-plain.plain in
    ended_name c.args.letters (option_copied c.args.origin) c.args.text.now (take plain.len c.read_plain_labels.new.room) (0 ∷ []) c.end_in_room.new.room
    (record { is_too_long = false; is_absolute = plain.is_absolute }) c.end_in_room.result c.in_ok-plain.ensures.holds c.in_ok-plain.ensures.labels c.requires.origin
    (ends_root (option_copied c.args.origin) _ c.if-plain.true) refl (omega (arith, c.requires.room, c.read_plain_labels.auto.room, c.end_in_room.auto.room)) c.end_in_room.ensures.within c.end_in_room.ensures.ended

pub returns-in_ok-origin-clause-name : goal.returns-in_ok-origin-clause-name
returns-in_ok-origin-clause-name c =
    let plain = c.in_ok-plain.plain in
    let above = c.in_ok-origin.field-0.now in
    ended_name c.args.letters (option_copied c.args.origin) c.args.text.now (take plain.len c.read_plain_labels.new.room) above c.end_in_room-else-plain.new.room
    (record { is_too_long = false; is_absolute = plain.is_absolute }) c.end_in_room-else-plain.result c.in_ok-plain.ensures.holds c.in_ok-plain.ensures.labels c.requires.origin
    (ends_above (option_copied c.args.origin) above _ c.if-plain.false (ap option_copied c.in_ok-origin.was)) refl (omega (arith, c.requires.room, c.read_plain_labels.auto.room, c.end_in_room-else-plain.auto.room)) c.end_in_room-else-plain.ensures.within c.end_in_room-else-plain.ensures.ended
