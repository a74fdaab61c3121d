use Rattle.zone_print.specs.Device.{WorksOn}
use Rattle.zone_difference.proofs.Written.{ToWrite}
use Rattle.zone_difference.specs.Left.{left_len}
use Rattle.zone_difference.proofs.write.write_difference.Given as goal

-- the lines that are gathered and those of the changes to come are what the writer has still to take
abbrev pub invariant-walk : goal.invariant-walk
invariant-walk g l = record {
  write : ToWrite l.fn.case l.zone.records l.other.records l.changes (g.W.OctetWriter.state l.initial.writer).octets (g.W.OctetWriter.state l.writer).octets l.lines.items l.differ;
  works : WorksOn (g.W.OctetWriter.state l.initial.writer) (g.W.OctetWriter.state l.writer);
}

abbrev pub decreases-walk : goal.decreases-walk
decreases-walk g l = left_len l.changes
