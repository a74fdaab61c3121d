use Rattle.std.proofs.Common.{drop}
use Rattle.zone_print.proofs.Front.{Left}
use Rattle.zone_print.specs.Device.{WorksOn}
use Rattle.zone_faults.specs.FoundLine.{found_lines}
use Rattle.zone_faults.proofs.writing.write_found_faults.Given as goal

-- the lines before this one were written
abbrev pub invariant-loop-found : goal.invariant-loop-found
invariant-loop-found g l =
    let state = g.W.OctetWriter.state in
    record {
      left : Left (state l.initial.writer).octets (state l.writer).octets (found_lines l.faults) (found_lines (drop l.found-index l.faults));
      works : WorksOn (state l.initial.writer) (state l.writer);
    }
