use Rattle.zone_set.proofs.Lists.Thinning.{Tells-itself}
use Rattle.zone_set.proofs.list.make_room.Goals as goal

pub returns-then-octet_count-mark-clause-told : goal.returns-then-octet_count-mark-clause-told
returns-then-octet_count-mark-clause-told c = Tells-itself c.args.kept.now

pub returns-in_err-mark-clause-told : goal.returns-in_err-mark-clause-told
returns-in_err-mark-clause-told c = rw c.in_err-mark.ensures.unchanged (Tells-itself c.args.kept.now)

pub returns-in_err-mark-clause-marked : goal.returns-in_err-mark-clause-marked
returns-in_err-mark-clause-marked c = rw c.in_err-mark.ensures.unchanged c.requires
