use Rattle.zone_text.proofs.Common.{ap, sym, take, take-length, ◌∙◌}
use Rattle.zone_text.proofs.Scanning.FirstEntries.{keeps_items}
use Rattle.zone_text.proofs.Tokens.FirstTokens.{all_taken, none_less, one_less}
use Rattle.zone_text.proofs.entry.entry_items.Goals as goal

pub returns-in-Whole-clause-found : goal.returns-in-Whole-clause-found
returns-in-Whole-clause-found c =
    keeps_items c.args.entry.now c.args.entry.now c.in-Whole.len _ (rw c.in-Whole.is at c.in_ok-len.ensures.found) (sym (ap (λ n. take n c.args.entry.now) c.if-len-entry.true ∙ take-length c.args.entry.now))

pub loop-item-preserved-in_default-item : goal.loop-item-preserved-in_default-item
loop-item-preserved-in_default-item c = none_less _ _ _ _ c.in-Some.ensures.shorter (rw c.in_default-item.is at c.in-Some.ensures.found) c.loop-item.invariant

pub loop-item-preserved : goal.loop-item-preserved
loop-item-preserved c = one_less _ _ _ _ _ _ c.in-Some.ensures.shorter (rw c.in-Some-item.is at c.in-Some.ensures.found) c.in_default-keep.ensures c.loop-item.invariant

pub returns-clause-found : goal.returns-clause-found
returns-clause-found c = all_taken _ _ _ c.in_default-first_token.ensures.none c.loop-item.invariant
