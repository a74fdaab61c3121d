-- The lines in the buffer and those to come are what the writer still has to take.
use Rattle.zone_print.proofs.Common.{◌++◌, canon, lines, WorksOn}
use Rattle.zone_print.proofs.Front.{Left}
use Rattle.zone_print.proofs.print.write_lines.Given as goal

abbrev pub invariant-loop-rr : goal.invariant-loop-rr
invariant-loop-rr g l =
    record {
      left : Left (g.W.OctetWriter.state l.initial.writer).octets (g.W.OctetWriter.state l.writer).octets (canon l.zone) (l.buffer ++ lines l.rr-iterator);
      works : WorksOn (g.W.OctetWriter.state l.initial.writer) (g.W.OctetWriter.state l.writer);
    }
