use Rattle.zone_name.specs.Common.{Labels}
use Rattle.zone_files.specs.Expansion.{Holds}
use Rattle.zone_files.specs.Machine.OpenReading.{LoadsFiles}
use Rattle.zone_files.specs.Machine.StepsLeft.{IsAligned, steps_left}
use Rattle.zone_files.proofs.files.loaded_files.read_all.Given as goal

-- whatever was loaded before, the text since then was
abbrev pub invariant-files : goal.invariant-files
invariant-files g l = record {
  aligned : IsAligned l.reader;
  loads : (main : _) (first : Holds) (start : _) (origin : Labels)
      → LoadsFiles g.S.IncludedFiles.opens g.S.File.OctetReader.state main first start origin l.initial.reader l.initial.files l.initial.loader
      → LoadsFiles g.S.IncludedFiles.opens g.S.File.OctetReader.state main first start origin l.reader l.files l.loader;
}

-- the steps that may be left
abbrev pub decreases-files : goal.decreases-files
decreases-files g l = steps_left l.reader
