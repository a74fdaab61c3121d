use Rattle.zone_set.proofs.Common.{arith}
use Rattle.zone_set.proofs.Lists.Differing.{mark_of_different}
use Rattle.zone_set.proofs.Lists.Thinning.{Tells-itself, Tells-trans}
use Rattle.zone_set.proofs.kept_list.KeptList.drop_repeats.Goals as goal

pub returns-in-Some-clause-told : goal.returns-in-Some-clause-told
returns-in-Some-clause-told c = Tells-itself c.args.self.now

pub returns-clause-told : goal.returns-clause-told
returns-clause-told c = Tells-trans _ _ _ c.in_ok-list.ensures c.in_ok-once.ensures.told

pub returns-clause-marked : goal.returns-clause-marked
returns-clause-marked c = mark_of_different c.mark_after-mark.result _ c.in_ok-once.ensures.once (omega (arith, c.mark_after-mark.ensures.is, c.octet_count.ensures))

pub returns-clause-below : goal.returns-clause-below
returns-clause-below c = omega (arith, c.mark_after-mark.ensures.below, c.octet_count.ensures)
