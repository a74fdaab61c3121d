use Rattle.zone_set.proofs.Lists.Differing.{within_listed}
use Rattle.zone_set.proofs.Lists.Thinning.{told_pushed}
use Rattle.zone_set.proofs.list.take_next.Goals as goal

pub returns-in_err-make_room-clause-within : goal.returns-in_err-make_room-clause-within
returns-in_err-make_room-clause-within c = rw (c.in_err-make_room.ensures.unchanged.0, c.in_err-make_room.ensures.unchanged.1) c.requires

pub returns-clause-taken : goal.returns-clause-taken
returns-clause-taken c = told_pushed c.list.result c.args.kept.now c.make_room.new.kept c.list.new.self _ c.make_room.ensures.told c.list.ensures.taken

pub returns-clause-within : goal.returns-clause-within
returns-clause-within c = within_listed c.list.result c.make_room.new.mark c.make_room.new.kept c.list.new.self _ _ c.known.ensures c.make_room.ensures.marked c.in_ok-make_room.ensures.below c.list.ensures.taken c.list.ensures.refused c.list.ensures.unchanged
