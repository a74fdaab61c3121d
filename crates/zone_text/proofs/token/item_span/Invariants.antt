use Rattle.zone_text.proofs.Common.{ends_within, length, ◌-◌}
use Rattle.zone_text.proofs.Tokens.WrittenItems.{IsWrittenTo}
use Rattle.zone_text.proofs.token.item_span.Given as goal

abbrev pub invariant-loop-len : goal.invariant-loop-len
invariant-loop-len l = IsWrittenTo (ends_within l.extent) l.text l.len

abbrev pub decreases-loop-len : goal.decreases-loop-len
decreases-loop-len l = length l.text - l.len
