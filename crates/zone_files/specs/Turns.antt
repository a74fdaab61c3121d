-- By what the reading of files in pieces ends: each call takes an octet, the end of a file or lines of a
-- `$GENERATE`, or opens a file (this project's own).
use Rattle.std.specs.Prelude.{◌≡◌, ℕ, ◌+◌, ◌<◌, ◌^◌, ◌⊎◌, List, [], length, Bool, true, false}
use Rattle.zone_files.specs.FileExpander.{ExpanderState, lines_left}
use Rattle.zone_files.specs.declared.expansion.progress.FileStatus.{FileStatus}
use Rattle.zone_files.specs.declared.expansion.progress.FileStatus.TheVariants.{Broken, Generating, Going}

-- octets of the file may be taken, or its end
abbrev pub IsTaking : FileStatus → Type 0
IsTaking status = (status ≡ Going) ⊎ (status ≡ Broken)

-- some of the octets that there are were taken
abbrev pub TakesSome : FileStatus → List ℕ → List ℕ → Type 0
TakesSome status octets left = IsTaking status → 0 < length octets → length left < length octets

-- the end of a file was taken: lines that come first then are the last of it
abbrev pub EndsFile : ExpanderState → ExpanderState → Type 0
EndsFile old new = IsTaking old.status → new.status ≡ Generating → new.last ≡ true

-- some of the lines that come first were made: after the last of a file nothing of it is taken
pub record GoesAfterLines (old new : ExpanderState) : Type 0 where
  pub last : new.status ≡ Generating → new.last ≡ old.last
  pub going : IsTaking new.status → old.last ≡ false

-- a number that falls while lines are made and the end of a file is taken
abbrev pub turns_by : FileStatus → Bool → ℕ → ℕ
turns_by Going last lines = 2 ^ 64 + 1
turns_by Broken last lines = 2 ^ 64 + 1
turns_by Generating true lines = lines + 1
turns_by Generating false lines = lines + 2 ^ 64 + 2
turns_by status last lines = 0

abbrev pub turns_left : ExpanderState → ℕ
turns_left s = turns_by s.status s.last (lines_left s.generated)
