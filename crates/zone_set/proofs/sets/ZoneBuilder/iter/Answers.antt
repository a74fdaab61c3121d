use Rattle.zone_rdata.proofs.Lists.{each_weaker}
use Rattle.zone_set.proofs.Common.{IsLinked}
use Rattle.zone_set.proofs.sets.ZoneBuilder.iter.Goals as goal

pub new-requires : goal.new-requires
new-requires c = rw (c.iter.ensures, c.as_slice.ensures.value) (each_weaker (IsLinked c.self.inside.class c.self.inside.octets.items) (λ e is. is.linked) _ c.self.invariant.holds.each)
