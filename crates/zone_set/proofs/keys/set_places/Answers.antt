use Rattle.zone_set.proofs.Common.{map-set_same, refl, ◌∙◌}
use Rattle.zone_set.proofs.keys.set_places.Goals as goal

pub loop-next-preserved : goal.loop-next-preserved
loop-next-preserved c = map-set_same (λ e. e.at) c.loop-next.run c.loop-next.next _ (record { hint = 0; at = 0 }) refl ∙ c.loop-next.invariant
