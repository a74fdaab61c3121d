use Rattle.zone_words.proofs.Common.{IsFedWriter, count_reach, length, line_reach, ◌+◌, ◌≤◌}
use Rattle.zone_words.proofs.FedTexts.{HasFed}
use Rattle.zone_words.proofs.fed_writer.FedWriter.feed.Given as goal

-- the writer goes on with the octets that were taken
abbrev pub invariant-loop-self : goal.invariant-loop-self
invariant-loop-self l = record {
  is : IsFedWriter l.self;
  lines : line_reach l.self + length l.rest ≤ line_reach l.fn.self + length l.piece;
  counts : count_reach l.self + length l.rest ≤ count_reach l.fn.self + length l.piece;
  fed : HasFed l.fn.self l.self l.piece l.rest;
}

abbrev pub decreases-loop-self : goal.decreases-loop-self
decreases-loop-self l = length l.rest
