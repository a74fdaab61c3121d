-- Why a text was not written.
use Rattle.zone_print.proofs.Common.{arith, ℕ, ◌≤◌, List, length, Result, IfErr, OnErr, AppendsPart, StopsWrite, Device}
use Rattle.zone_rdata.specs.declared.fault.Stop.{Stop}
use Rattle.zone_print.specs.Machine.Writing.{IsOfWriting}

-- a text within the limit was written in part, if writing it stopped
pub stops_within : {T : Type 0} (limit : ℕ) (text : List ℕ) (old new : Device) (answer : Result T Stop) → length text ≤ limit → IfErr answer (IsOfWriting old new) → OnErr answer (AppendsPart old.octets new.octets text) → IfErr answer (StopsWrite limit text old new)
stops_within limit text old new answer short is part = grind (arith, StopsWrite.write, StopsWrite.memory)
