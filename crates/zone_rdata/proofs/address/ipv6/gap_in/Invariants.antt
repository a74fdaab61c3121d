use Rattle.zone_rdata.proofs.Common.{ℕ, suc, ◌<◌, HasGapAt}
use Rattle.zone_rdata.proofs.address.ipv6.gap_in.Given as goal

abbrev pub invariant-loop-at : goal.invariant-loop-at
invariant-loop-at l = (k : ℕ) → suc k < l.at → HasGapAt l.text k → ⊥
