use Rattle.zone_wire.proofs.Common.{arith, ◌+◌, ◌-◌, ◌≡◌}
use Rattle.zone_wire.proofs.Names.RunLaws.{copied_part}
use Rattle.zone_wire.proofs.labels.copy_folded.Goals as goal

pub returns-then-start-size : goal.returns-then-start-size
returns-then-start-size c =
    let from : c.args.start + c.args.size - c.args.start ≡ c.args.size = omega arith in
    copied_part c.args.message.now c.args.room.now c.args.start c.args.size c.args.at (c.args.at + c.args.size - c.args.at) _ _ (omega arith) c.requires.part (omega (arith, c.requires.room)) (rw from at c.copy_from_slice.ensures.after) c.make_ascii_lowercase.ensures.after
