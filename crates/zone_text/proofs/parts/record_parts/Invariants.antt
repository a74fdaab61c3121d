use Rattle.zone_text.proofs.Common.{length, map, raw}
use Rattle.zone_text.proofs.Heads.PartsLeft.{ReadsTexts}
use Rattle.zone_text.proofs.parts.record_parts.Given as goal

abbrev pub invariant-loop-text : goal.invariant-loop-text
invariant-loop-text l = ReadsTexts (map raw l.items) l.parts

abbrev pub decreases-loop-text : goal.decreases-loop-text
decreases-loop-text l = length l.parts.rest.now
