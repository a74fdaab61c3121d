-- What is reported of a master file in presentation format that is refused (this project's own).
use Rattle.std.specs.Prelude.{◌≡◌, ℕ, List, ◌∷◌, Option, Some, None}
use Rattle.zone_name.specs.Common.{Labels}
use Rattle.zone_rdata.specs.declared.fault.Fault.{Fault}
use Rattle.zone_rdata.specs.declared.fault.Fault.TheVariants.{BadRdata, UnknownType}
use Rattle.zone_rdata.specs.declared.fault.Place.{Place}
use Rattle.zone_rdata.specs.declared.fault.Place.TheVariants.{Line}
use Rattle.zone_words.specs.Entry.{IsRewriting}
use Rattle.zone_words.specs.Rewriting.{Refused}
use Rattle.zone_files.specs.Presentation.{RefusesPresentation}

-- the first entry of a further type whose items state no data of it
pub record IsFirstWithoutData (origin : Labels) (octets : List ℕ) (entry : Refused) : Type 0 where
  pub generic : List ℕ
  pub others : List Refused
  pub rewriting : IsRewriting origin octets generic (entry ∷ others)

-- What is reported of a master file that is refused: the fault and its place. Where the generic
-- form has an unknown type on the line of the first entry of a further type whose items state no
-- data, the type is known and its data is bad: that is reported, with the entry.
pub data IsReported (origin : Labels) (octets : List ℕ) : Fault → Place → Option Refused → Type 0
  where
    of_data : (entry : Refused) → IsFirstWithoutData origin octets entry
        → RefusesPresentation origin octets UnknownType (Line entry.line)
        → IsReported origin octets BadRdata (Line entry.line) (Some entry)
    of_file : (fault : Fault) (place : Place) → RefusesPresentation origin octets fault place
        → (fault ≡ UnknownType → (entry : Refused) → IsFirstWithoutData origin octets entry
        → place ≡ Line entry.line → ⊥)
        → IsReported origin octets fault place None
