-- What a source of records still has to give. A list of records, then an end or a refusal, is this
-- project's own choice.
use Rattle.std.specs.Prelude.{Bool, true, false, List, [], ◌∷◌, Option, Some, None, Result, Ok, Err}
use Rattle.zone_rdata.specs.declared.fault.Fault.{Fault}
use Rattle.zone_rdata.specs.declared.fault.Place.{Place}
use Rattle.zone_rdata.specs.declared.fault.Stop.{Stop}
use Rattle.zone_rdata.specs.declared.fault.Stop.TheVariants.{Refused, Memory}
use Rattle.zone_rdata.specs.declared.record.Placed.{Placed}

-- whether it failed, the records still to come in order, and the fault after them, if one is
-- decided
pub record Pending : Type 0 where
  pub failed : Bool
  pub records : List Placed
  pub ending : Option (Fault × Place)

-- the answer where no record is left
abbrev pub ending_answer : Option (Fault × Place) → Result (Option Placed) Stop
ending_answer None = Ok None
ending_answer (Some e) = Err (Refused e.0 e.1)

-- the answer with a record that was taken out, if there was one
abbrev pub answer_with : Option Placed → Option (Fault × Place) → Result (Option Placed) Stop
answer_with None ending = ending_answer ending
answer_with (Some r) ending = Ok (Some r)

-- the first record still to come, if there is one
abbrev pub first_record : List Placed → Option Placed
first_record [] = None
first_record (r ∷ records) = Some r

abbrev pub first_answer : List Placed → Option (Fault × Place) → Result (Option Placed) Stop
first_answer records ending = answer_with (first_record records) ending

-- the next answer: want of memory where it failed, else the first record, else the fault
abbrev pub answer_of : Pending → Result (Option Placed) Stop
answer_of pending =
    elim pending.failed [ true ↦ Err Memory | false ↦ first_answer pending.records pending.ending ]

abbrev pub others : List Placed → List Placed
others [] = []
others (r ∷ records) = records

-- what is left after an answer
abbrev pub after : Pending → Pending
after pending =
    elim pending.failed
    [ true ↦ pending | false ↦ record pending { records = others pending.records } ]

-- the first record still to come, where the source hasn't failed
abbrev pub first_of : Pending → Option Placed
first_of pending = elim pending.failed [ true ↦ None | false ↦ first_record pending.records ]
