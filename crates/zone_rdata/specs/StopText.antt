-- The lines that tell people why a call stopped, or why a record could not be made (this project's
-- own). `docs/FAULTS.md` lists the faults.
use Rattle.std.specs.Prelude.{ℕ, List, [], ◌∷◌, ◌++◌, codes, decimal}
use Rattle.zone_name.specs.Text.{name_text}
use Rattle.zone_rdata.specs.FaultTable.{fault_row}
use Rattle.zone_rdata.specs.declared.fault.Failing.{Failing}
use Rattle.zone_rdata.specs.declared.fault.Failing.TheVariants as failings
use Rattle.zone_rdata.specs.declared.fault.Fault.{Fault}
use Rattle.zone_rdata.specs.declared.fault.Fault.TheVariants as faults
use Rattle.zone_rdata.specs.declared.fault.Place.{Place}
use Rattle.zone_rdata.specs.declared.fault.Place.TheVariants.{Line, Message, Whole}
use Rattle.zone_rdata.specs.declared.fault.Stop.{Stop}
use Rattle.zone_rdata.specs.declared.fault.Stop.TheVariants.{Refused, Read, Write, Memory}

-- what stands after the name: the error code, or the owner, which ASCII spells
abbrev pub argument_of : Fault → List ℕ
argument_of (faults.ErrorCode code) = 32 ∷ decimal code
argument_of (faults.OutOfZone owner) = 32 ∷ name_text owner
argument_of _ = []

-- the place in words
abbrev pub place_words : Place → List ℕ
place_words (Line number) = codes " at line " ++ decimal number
place_words (Message number offset) = codes " at message " ++ decimal number ++ codes " offset "
    ++ decimal offset
place_words Whole = codes " in the input"

-- the line of a refusal: number, name and argument of the fault, its place, and what is wrong
abbrev pub refusal_line : Fault → Place → List ℕ
refusal_line fault place =
    codes "F" ++ decimal (fault_row fault).number ++ codes " " ++ (fault_row fault).name
    ++ argument_of fault ++ place_words place ++ codes ": " ++ (fault_row fault).text

-- the line of a stop
abbrev pub stop_line : Stop → List ℕ
stop_line (Refused fault place) = refusal_line fault place
stop_line Read = codes "read failed"
stop_line Write = codes "write failed"
stop_line Memory = codes "out of memory"

-- the line of a failing: of a fault that of a refusal without a place
abbrev pub failing_line : Failing → List ℕ
failing_line (failings.Fault fault) =
    codes "F" ++ decimal (fault_row fault).number ++ codes " " ++ (fault_row fault).name
    ++ argument_of fault ++ codes ": " ++ (fault_row fault).text
failing_line failings.Memory = codes "out of memory"
