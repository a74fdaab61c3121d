-- What is gone from `rest` was appended, by calls that did not fail.
use Rattle.zone_print.proofs.Common.{length, WorksOn}
use Rattle.zone_print.proofs.Front.{Left}
use Rattle.zone_print.proofs.write.write_octets.Given as goal

abbrev pub invariant-loop-rest : goal.invariant-loop-rest
invariant-loop-rest g l =
    record {
      left : Left (g.W.OctetWriter.state l.initial.writer).octets (g.W.OctetWriter.state l.writer).octets l.octets l.rest;
      works : WorksOn (g.W.OctetWriter.state l.initial.writer) (g.W.OctetWriter.state l.writer);
    }

abbrev pub decreases-loop-rest : goal.decreases-loop-rest
decreases-loop-rest g l = length l.rest
