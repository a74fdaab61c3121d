-- What a parsed message and its answers hold.
use Rattle.std.specs.Prelude.{◌≡◌, ℕ, List, [], map, length, Result, Ok, Err}
use Rattle.zone_rdata.specs.declared.fault.Fault.{Fault}
use Rattle.zone_wire.specs.Message.{RecordAt, Sections, AreAt, IsRecordAt, IsMessage}
use Rattle.zone_wire.specs.Machine.Finding.{Outcome, named, refused}
use Rattle.zone_wire.specs.Machine.Sections.{sections_of, records_from}
use Rattle.zone_wire.specs.View.{Parsed, RawRecord, raw_at}

-- the sections that are read; none, where they have a fault
abbrev pub sections_or_none : Result Sections (Fault × ℕ) → Sections
sections_or_none (Ok s) = s
sections_or_none (Err e) = record { id = 0; questions = []; answers = []; additional = [] }

abbrev pub parsed : List ℕ → Parsed
parsed octets = record { octets = octets; sections = sections_or_none (sections_of octets) }

abbrev pub AreRecordsAt : List ℕ → ℕ → List RecordAt → ℕ → Type 0
AreRecordsAt octets offset records end = AreAt (IsRecordAt octets) (λ r. r.end) offset records end

-- octets that are a message, whose answers begin at an offset
pub record IsParsed (octets : List ℕ) (answers : ℕ) : Type 0 where
  pub message : IsMessage octets (parsed octets).sections
  pub past : ℕ
  pub begin : AreRecordsAt octets answers (parsed octets).sections.answers past

-- the records that are read; none, where they have a fault
abbrev pub records_or_none : Result (List RecordAt × ℕ) (Fault × ℕ) → List RecordAt
records_or_none (Ok run) = run.0
records_or_none (Err e) = []

-- so many records from an offset on
abbrev pub raw_from : List ℕ → ℕ → ℕ → List RawRecord
raw_from octets count offset =
    map (raw_at octets) (records_or_none (records_from octets count offset))

-- so many records stand from an offset on
pub record HasRecordsFrom (octets : List ℕ) (count offset : ℕ) : Type 0 where
  pub records : List RecordAt
  pub past : ℕ
  pub stand : AreRecordsAt octets offset records past
  pub counted : length records ≡ count

-- the offset after a name, a part or many parts, or their fault
abbrev pub name_end_of : Outcome → Result ℕ Fault
name_end_of (named found) = Ok found.end
name_end_of (refused fault steps) = Err fault

abbrev pub part_end_of : {X : Type 0} → (X → ℕ) → Result X Fault → Result ℕ Fault
part_end_of end_of (Ok x) = Ok (end_of x)
part_end_of end_of (Err fault) = Err fault

abbrev pub run_end_of : {X : Type 0} → Result (List X × ℕ) (Fault × ℕ) → Result ℕ (Fault × ℕ)
run_end_of (Ok run) = Ok run.1
run_end_of (Err e) = Err e
