use Rattle.zone_set.proofs.Common.{arith, length, map-set_same, refl, ◌<◌, ◌∙◌}
use Rattle.zone_set.proofs.Hints.Keyed.{with_hint_more}
use Rattle.zone_set.proofs.keys.set_hint.Goals as goal

pub loop-entry-preserved : goal.loop-entry-preserved
loop-entry-preserved c =
    let lt : c.loop-entry.entry-index < length c.loop-entry.run = omega arith in (
      map-set_same (λ e. e.at) c.loop-entry.run c.loop-entry.entry-index _ (record { hint = 0; at = 0 }) refl ∙ c.loop-entry.invariant.0,
      with_hint_more c.args.hint c.loop-entry.run c.loop-entry.entry-index _ lt c.loop-entry.invariant.1,
    )
