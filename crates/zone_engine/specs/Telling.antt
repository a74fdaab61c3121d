-- The lines that tell people what was found and why a call stopped, and what is written of them
-- (this project's own).
use Rattle.std.specs.Prelude.{ℕ, List, [], ◌∷◌, ◌++◌, codes, decimal}
use Rattle.std.specs.Io.KnownBytes.{Appends}
pub use Rattle.zone_rdata.specs.StopText.{argument_of, place_words, refusal_line, stop_line}
use Rattle.zone_rdata.specs.declared.fault.Stop.{Stop}
use Rattle.zone_rdata.specs.declared.fault.Stop.TheVariants.{Refused, Read, Write, Memory}
use Rattle.zone_print.specs.Device.{Device, WorksOn, Fails}
use Rattle.zone_print.specs.Writing.{AppendsPart}
use Rattle.zone_engine.specs.declared.comparison.CompareError.{CompareError}
use Rattle.zone_engine.specs.declared.comparison.Verdict.{Verdict}
use Rattle.zone_engine.specs.declared.comparison.Verdict.TheVariants.{Same, Different}
use Rattle.zone_engine.specs.declared.comparison.Which.{Which}
use Rattle.zone_engine.specs.declared.comparison.Which.TheVariants.{First, Second}

-- what a line on this input of a comparison begins with
abbrev pub which_words : Which → List ℕ
which_words First = codes "first: "
which_words Second = codes "second: "

-- the line on what stopped a comparison
abbrev pub compare_error_line : CompareError → List ℕ
compare_error_line error = which_words error.which ++ stop_line error.stop

-- the exit status of a run that stopped
abbrev pub stop_status : Stop → ℕ
stop_status (Refused fault place) = 3
stop_status Read = 4
stop_status Write = 4
stop_status Memory = 4

-- the line on an input that is accepted: how many records its zone has
abbrev pub records_line : ℕ → List ℕ
records_line count = codes "accepted, records: " ++ decimal count

-- the line of a comparison's verdict, and its exit status
abbrev pub verdict_line : Verdict → List ℕ
verdict_line Same = codes "same"
verdict_line (Different line) = codes "different at line " ++ decimal line

abbrev pub verdict_status : Verdict → ℕ
verdict_status Same = 0
verdict_status (Different line) = 1

-- a line was written with its line feed, and nothing else
abbrev pub WritesLine : List ℕ → Device → Device → Type 0
WritesLine line old new = Appends old.octets new.octets (line ++ 10 ∷ [])

-- a proper prefix of that was written
abbrev pub WritesPartOfLine : List ℕ → Device → Device → Type 0
WritesPartOfLine line old new = AppendsPart old.octets new.octets (line ++ 10 ∷ [])

-- a line was written with this exit status; or the writer failed after a proper prefix of it, and
-- the status is 4
pub data TellsLine (line : List ℕ) (status : ℕ) (old new : Device) : ℕ → Type 0 where
  whole : WritesLine line old new → WorksOn old new → TellsLine line status old new status
  part : WritesPartOfLine line old new → Fails old new → TellsLine line status old new 4
