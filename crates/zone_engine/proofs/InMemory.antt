-- Inputs in memory, of which no read fails.
use Rattle.std.specs.Prelude.{IfErr, Ok, Err, ⊤}
use Rattle.zone_engine.proofs.Common.{Device, Octets, Result, Some, Stop, Refused, Read, Write, Memory, Input, IsOfBytes, IsOfReading}
use Rattle.zone_engine.specs.Compare.{StopsCompare, StopsCompareBytes, by_first, by_first_bytes, by_second, by_second_bytes}
use Rattle.zone_engine.specs.Reading.{TellsRead}
use Rattle.zone_engine.specs.declared.comparison.Which.{Which}

-- such a reader
abbrev pub lent : Octets → Device
lent octets = record { octets = Some octets; works = ⊤; failed = ⊥ }

of_bytes : (old new : Octets) (stop : Stop) → IsOfReading stop → TellsRead (lent old) (lent new) stop → IsOfBytes stop
of_bytes old new (Refused fault place) is tells = tt
of_bytes old new Read is tells = absurd (tells tt)
of_bytes old new Write is tells = is
of_bytes old new Memory is tells = tt

stops_bytes : (form other_form : Octets → Input) (first first' second second' : Octets) (which : Which) (stop : Stop) → StopsCompare form other_form (lent first) (lent first') (lent second) (lent second') which stop → StopsCompareBytes (form first) (other_form second) which stop
stops_bytes form other_form first first' second second' _ _ (by_first stop is read left) = by_first_bytes stop (of_bytes first first' stop is read.tells) read.fault
stops_bytes form other_form first first' second second' _ _ (by_second stop is accepted end read) = by_second_bytes stop (of_bytes second second' stop is read.tells) accepted.0 accepted.1 read.fault

-- what stops a comparison
pub stops_in_memory : {T : Type 0} (form other_form : Octets → Input) (first first' second second' : Octets) (r : Result T (Which × Stop)) → IfErr r (λ why. StopsCompare form other_form (lent first) (lent first') (lent second) (lent second') why.0 why.1) → IfErr r (λ why. StopsCompareBytes (form first) (other_form second) why.0 why.1)
stops_in_memory form other_form first first' second second' (Ok x) h = tt
stops_in_memory form other_form first first' second second' (Err why) h = stops_bytes form other_form first first' second second' why.0 why.1 h
