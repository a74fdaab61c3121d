use Rattle.zone_set.proofs.Lists.Differing.{within_first}
use Rattle.zone_set.proofs.list.ZoneList.new.Goals as goal

pub invariant_of-result : goal.invariant_of-result
invariant_of-result c = rw c.new.ensures within_first
