use Rattle.zone_print.proofs.Common.{arith, length, length-append, line, lines, record_of, ◌+◌}
use Rattle.zone_print.proofs.print.len_within.Goals as goal

pub loop-rr-preserved : goal.loop-rr-preserved
loop-rr-preserved c =
    let r = record_of c.in-Some.rr in
    let (counted, parts, spares) = rw c.in-Some.ensures.steps at c.loop-rr.invariant in (
      counted + length (line r),
      omega (arith, parts, length-append (line r) (lines c.next.new.self)),
      rw c.in-Ok.ensures (omega (arith, spares)),
    )
