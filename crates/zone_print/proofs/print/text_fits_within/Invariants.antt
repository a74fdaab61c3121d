-- What was counted and the lines that are left are the text, and what their records take in messages is known.
use Rattle.zone_print.proofs.Common.{canon, length}
use Rattle.zone_print.proofs.Lengths.{IsCounted}
use Rattle.zone_print.proofs.print.text_fits_within.Given as goal

abbrev pub invariant-loop-rr : goal.invariant-loop-rr
invariant-loop-rr l = IsCounted (length (canon l.zone)) l.limit l.rr-iterator l.spare.left l.uncounted
