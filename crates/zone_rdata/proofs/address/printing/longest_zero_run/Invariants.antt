use Rattle.zone_rdata.proofs.Common.{◌≡◌, ◌+◌, ◌≤◌, length, drop, zero_run, longest_zero_run}
use Rattle.zone_rdata.proofs.address.printing.longest_zero_run.Given as goal

abbrev pub invariant-loop-i : goal.invariant-loop-i
invariant-loop-i l =
    (l.run ≡ zero_run (drop l.i l.groups)) × (l.len ≡ (longest_zero_run (drop l.i l.groups)).1)
    × (l.start ≡ l.i + (longest_zero_run (drop l.i l.groups)).0)
    × (l.i + l.run ≤ length l.groups) × (l.start + l.len ≤ length l.groups)
