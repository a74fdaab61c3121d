use Rattle.zone_text.proofs.Common.{count_by, length, ◌+◌, ◌==◌, ◌≡◌, ◌≤◌}
use Rattle.zone_text.proofs.feeds.line_feeds.Given as goal

abbrev pub invariant-loop-rest : goal.invariant-loop-rest
invariant-loop-rest l = record {
  left : count_by (λ c. c == 10) l.octets ≡ l.count + count_by (λ c. c == 10) l.rest;
  few : l.count + length l.rest ≤ length l.octets;
}

abbrev pub decreases-loop-rest : goal.decreases-loop-rest
decreases-loop-rest l = length l.rest
