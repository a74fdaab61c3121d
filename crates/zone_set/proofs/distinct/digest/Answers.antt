use Rattle.zone_set.proofs.Common.{ap, ap₂, length, sym, ◌/◌, ◌∙◌}
use Rattle.zone_set.proofs.Lists.Seeing.{mixed_end, mixed_step}
use Rattle.zone_set.specs.Machine.Distinct.{mixed, mixed_with}
use Rattle.zone_set.proofs.distinct.digest.Goals as goal

pub loop-eight-preserved : goal.loop-eight-preserved
loop-eight-preserved c =
    let parts = c.in-Some.ensures.cases in
    ap (λ d. mixed_with (length c.in-Some.rest.now / 8) d c.in-Some.rest.now) (c.mixed-digest-in-Some.ensures ∙ ap (mixed c.loop-eight.digest) c.from_le_bytes.ensures)
    ∙ sym (mixed_step c.loop-eight.digest c.loop-eight.left.now c.in-Some.rest.now c.in-Some.eight.now parts.0 parts.1 parts.2)
    ∙ c.loop-eight.invariant

pub returns : goal.returns
returns c = c.mixed.ensures ∙ ap₂ mixed (sym (mixed_end c.loop-eight.digest c.loop-eight.left.now c.in_default.ensures.cases) ∙ c.loop-eight.invariant) c.last_eight.ensures
