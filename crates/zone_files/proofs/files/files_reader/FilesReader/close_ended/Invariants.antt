use Rattle.std.proofs.Common.{◌≡◌, ℕ, List, length}
use Rattle.zone_files.specs.Expansion.{Holds}
use Rattle.zone_files.specs.Machine.OpenReading.{StandsAfter}
use Rattle.zone_files.specs.Reading.{OpenedFile}
use Rattle.zone_files.proofs.ReadingEnds.{CloseSoFar}
use Rattle.zone_files.proofs.files.files_reader.FilesReader.close_ended.Given as goal

-- files were closed, and so many more are to be
abbrev pub invariant-ended : goal.invariant-ended
invariant-ended g l = record {
  text : l.self.text.items ≡ l.initial.self.text.items;
  expanded : l.self.expanded ≡ l.initial.self.expanded;
  closes : CloseSoFar l.initial.self l.self;
  stands : (main : _) (ended : ℕ) (first : Holds) (opened : List (OpenedFile _)) (text : List ℕ)
      → StandsAfter g.R.OctetReader.state main ended first l.initial.self opened text
      → (left : ℕ) × StandsAfter g.R.OctetReader.state main left first l.self opened text;
}

-- the files that are open
abbrev pub decreases-ended : goal.decreases-ended
decreases-ended g l = length l.self.«open».outer.items
