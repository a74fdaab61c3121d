use Rattle.zone_print.proofs.Common.{record_of, refl, rules}
use Rattle.zone_print.proofs.Lengths.{IsCounted-first, IsCounted-more, fits_early}
use Rattle.zone_print.proofs.print.text_fits_within.Goals as goal

pub loop-rr-init : goal.loop-rr-init
loop-rr-init c =
    rw (c.message_len-uncounted.ensures.len, c.into_iter-rr-iterator.ensures.into_iter_gives) (IsCounted-first c.args.limit _ _ c.message_len-uncounted.ensures.zone.compatible.each c.unordered_records-rr-items.ensures)

pub returns-then-uncounted-spare : goal.returns-then-uncounted-spare
returns-then-uncounted-spare c =
    let whole = fits_early _ _ _ _ _ c.requires c.loop-rr.invariant (search rules) in
    (λ yes. whole, λ fits. refl)

pub loop-rr-preserved : goal.loop-rr-preserved
loop-rr-preserved c =
    rw (c.in-Ok.ensures, c.saturating_sub-uncounted.ensures, c.message_len.ensures) (IsCounted-more _ _ (record_of c.in-Some.rr) _ _ _ (rw c.in-Some.ensures.steps at c.loop-rr.invariant))
