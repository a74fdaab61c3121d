use Rattle.std.proofs.Common.{refl, sym, ◌∙◌, ap, Ok}
use Rattle.zone_set.proofs.Lists.Taking.{AddsEach-push, HasTaken-start, HasTaken-more, StopsTaking-at_end, StopsTaking-refused}
use Rattle.zone_set.proofs.sets.ZoneBuilder.take_all.Goals as goal

pub loop-placed-init : goal.loop-placed-init
loop-placed-init g c = (HasTaken-start _ _ refl, refl)

pub loop-placed-preserved : goal.loop-placed-preserved
loop-placed-preserved g c = (
  HasTaken-more _ _ _ c.loop-placed.invariant.0 _ c.in-Ok-Some.placed _ (sym c.next.ensures.answer ∙ c.in-Ok-Some.is ∙ ap Ok c.in-Ok-Some.field-0-is) c.next.ensures.left
      (λ taken each. AddsEach-push _ _ taken c.in-Ok-Some.placed _ each (rw c.lend.ensures.record at c.in-Ok.ensures.accepted) (rw c.lend.ensures.record at c.in-Ok.ensures.taken)),
  c.next.ensures.beside ∙ c.loop-placed.invariant.1,
)

pub returns-in-Err-clause-stopped : goal.returns-in-Err-clause-stopped
returns-in-Err-clause-stopped g c = StopsTaking-at_end _ _ _ _ c.loop-placed.invariant.0 _ _ (sym c.next.ensures.answer ∙ c.in-Err.is) c.next.ensures.left

pub returns-in-Err-hold-clause-stopped : goal.returns-in-Err-hold-clause-stopped
returns-in-Err-hold-clause-stopped g c =
    StopsTaking-refused _ _ _ _ c.loop-placed.invariant.0 c.in-Ok-Some.placed _ _ _ (sym c.next.ensures.answer ∙ c.in-Ok-Some.is ∙ ap Ok c.in-Ok-Some.field-0-is) c.next.ensures.left (rw c.lend.ensures.record at c.in-Err-hold.ensures.refused) c.in-Err-hold.ensures.unchanged
