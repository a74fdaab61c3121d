use Rattle.zone_text.proofs.Common.{length, map, raw}
use Rattle.zone_text.proofs.Tokens.FirstTokens.{LeavesItems}
use Rattle.zone_text.proofs.entry.entry_items.Given as goal

abbrev pub invariant-loop-item : goal.invariant-loop-item
invariant-loop-item l = LeavesItems l.entry l.rest (map raw l.items.items)

abbrev pub decreases-loop-item : goal.decreases-loop-item
decreases-loop-item l = length l.rest
