-- The line of the entry that first states a record (this project's own).
use Rattle.std.specs.Prelude.{◌≡◌, ℕ, List, [], ◌∷◌, ◌++◌}
use Rattle.zone_name.specs.Common.{Labels}
use Rattle.zone_name.specs.Name.{folded}
use Rattle.zone_rdata.specs.Record.{Record}
use Rattle.zone_rdata.specs.declared.fault.Place.TheVariants.{Line}
use Rattle.zone_rdata.specs.declared.record.Placed.{Placed}
use Rattle.zone_set.specs.Refusal.{records_of}
use Rattle.zone_set.specs.Zone.{Has}
use Rattle.zone_words.specs.WithWords.{FileStatesWithWords}

-- The first of these records that is this one is on this line.
pub record IsFirstOn (placed : List Placed) (r : Record) (line : ℕ) : Type 0 where
  pub before : List Placed
  pub others : List Placed
  pub parts : placed ≡ before ++ record { rr = r; place = Line line } ∷ others
  pub first : Has (records_of before) r → ⊥

-- so it is for each record and its line
abbrev pub EachFirstOn : List Placed → List Record → List ℕ → Type 0
EachFirstOn placed [] lines = lines ≡ []
EachFirstOn placed (r ∷ records) [] = ⊥
EachFirstOn placed (r ∷ records) (line ∷ lines) =
    IsFirstOn placed r line × EachFirstOn placed records lines

-- A master file states each of these records, in presentation format or in the generic form, and the
-- entry that first states it begins on the line beside it.
pub record AreFirstLines (origin : Labels) (octets : List ℕ) (records : List Record)
    (lines : List ℕ) : Type 0 where
  pub placed : List Placed
  pub states : FileStatesWithWords origin (folded origin) octets placed
  pub first : EachFirstOn placed records lines
