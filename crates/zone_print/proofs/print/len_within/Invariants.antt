-- What was counted and the lines that are left are the text.
use Rattle.zone_print.proofs.Common.{canon, length, lines, ℕ, ◌+◌, ◌≡◌}
use Rattle.std.specs.Prelude.{◌-◌}
use Rattle.zone_print.proofs.print.len_within.Given as goal

abbrev pub invariant-loop-rr : goal.invariant-loop-rr
invariant-loop-rr l =
    (counted : ℕ) × (counted + length (lines l.rr-iterator) ≡ length (canon l.zone)) × (l.room.left ≡ l.limit + 1 - counted)
