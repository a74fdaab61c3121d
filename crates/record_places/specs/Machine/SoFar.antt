-- The lines of records as far as a file was read (private).
use Rattle.std.specs.Prelude.{◌≡◌, ℕ, ◌<◌, List, [], ◌∷◌, map}
use Rattle.std.specs.List.{AllByRecursion}
use Rattle.zone_name.specs.Common.{Labels}
use Rattle.zone_rdata.specs.Lent.{record_of}
use Rattle.zone_rdata.specs.FedSource.{SourceState}
use Rattle.zone_rdata.specs.Record.{Record}
use Rattle.zone_rdata.specs.declared.fault.Place.TheVariants.{Line}
use Rattle.zone_rdata.specs.declared.lent.RrRef.{RrRef}
use Rattle.zone_rdata.specs.declared.record.Placed.{Placed}
use Rattle.zone_set.specs.Order.{Ascends}
use Rattle.zone_set.specs.Refusal.{records_of}
use Rattle.zone_set.specs.Zone.{Has}
use Rattle.zone_text.specs.TextSource.{FileKept, StandsForFile}
use Rattle.record_places.specs.FirstLines.{IsFirstOn}

abbrev pub records_in : List RrRef → List Record
records_in records = map record_of records

-- borrowed records in canonical order, all of one class
pub record AreSorted (class : ℕ) (records : List RrRef) : Type 0 where
  pub up : Ascends (records_in records)
  pub one_class : AllByRecursion (λ (r : Record). r.class ≡ class) (records_in records)

-- the lines of a file begin with 1
abbrev pub IsOnLine : Placed → Type 0
IsOnLine p = (line : ℕ) × (p.place ≡ Line line) × (0 < line)

abbrev pub AreOnLines : List Placed → Type 0
AreOnLines placed = AllByRecursion IsOnLine placed

-- the line of the first of these records that is this one, and 0 where none is
pub data IsLineSoFar (placed : List Placed) (r : Record) (line : ℕ) : Type 0 where
  none : line ≡ 0 → (Has (records_of placed) r → ⊥) → IsLineSoFar placed r line
  first : 0 < line → IsFirstOn placed r line → IsLineSoFar placed r line

abbrev pub EachSoFar : List Placed → List Record → List ℕ → Type 0
EachSoFar placed [] lines = lines ≡ []
EachSoFar placed (r ∷ records) [] = ⊥
EachSoFar placed (r ∷ records) (line ∷ lines) =
    IsLineSoFar placed r line × EachSoFar placed records lines

-- the lines after these records were read
abbrev pub AreLinesSoFar : List Placed → List Record → List ℕ → Type 0
AreLinesSoFar placed records lines = AreOnLines placed → EachSoFar placed records lines

-- the source stands for the octets that it was fed, and these are the lines after the records that
-- it has given
pub record Finds (origin : Labels) (source : SourceState FileKept) (fed : List ℕ)
    (records : List Record) (lines : List ℕ) : Type 0 where
  pub given : List Placed
  pub stands : StandsForFile origin source fed given
  pub so_far : AreLinesSoFar given records lines
