use Rattle.zone_files.specs.Expansion.{Holds}
use Rattle.zone_files.specs.Machine.OpenReading.{WritesFiles}
use Rattle.zone_files.specs.Machine.StepsLeft.{IsAligned, steps_left}
use Rattle.zone_files.proofs.files.expanded_files.write_all.Given as goal

-- the text since then was written
abbrev pub invariant-files : goal.invariant-files
invariant-files g l = record {
  aligned : IsAligned l.reader;
  written : (main : _) (first : Holds) (start : _)
      → WritesFiles g.S.IncludedFiles.opens g.S.File.OctetReader.state main first start (g.W.OctetWriter.state l.initial.output) l.initial.reader l.initial.files (g.W.OctetWriter.state l.initial.output)
      → WritesFiles g.S.IncludedFiles.opens g.S.File.OctetReader.state main first start (g.W.OctetWriter.state l.initial.output) l.reader l.files (g.W.OctetWriter.state l.output);
}

-- the steps that may be left
abbrev pub decreases-files : goal.decreases-files
decreases-files g l = steps_left l.reader
