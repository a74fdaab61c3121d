-- The records of one zone of which another has no equal, still to come.
use Rattle.std.specs.Prelude.{◌≡◌, [], ◌∷◌, ℕ, length, List, Option, Some, None}
use Rattle.zone_rdata.specs.Lent.{record_of}
use Rattle.zone_rdata.specs.Record.{Record}
use Rattle.zone_rdata.specs.declared.lent.RrRef.{RrRef}
use Rattle.zone_set.specs.Zone.{Has}
use Rattle.zone_difference.specs.Difference.{HasEqual}
use Rattle.zone_difference.specs.Folded.{IsAt}
use Rattle.zone_difference.specs.Walk.{AreToCome, AreWithout, with_taken}
use Rattle.zone_difference.specs.declared.folded_sets.FoldedSets.{FoldedSets}
use Rattle.zone_difference.specs.declared.lacking.Lacking.{Lacking}
use Rattle.zone_difference.specs.declared.name_case.NameCase.{NameCase}
use Rattle.zone_difference.specs.declared.name_case.NameCase.TheVariants.{Exact, Folded}

-- the RRsets of the other zone are kept for these records to be looked up, if names are folded
abbrev pub IsFoldedTo : NameCase → List Record → Option FoldedSets → List Record → Type 0
IsFoldedTo case all None wanted = case ≡ Exact
IsFoldedTo case all (Some f) wanted = (case ≡ Folded) × IsAt all f wanted

-- these are still to come
pub record AreLacking (case : NameCase) (all : List Record) (l : Lacking)
    (only : List Record) : Type 0 where
  pub exact : List Record
  pub to_come : AreToCome l.only exact
  pub lacked : (r : Record) → Has exact r → Has all r → ⊥
  pub are : AreWithout (HasEqual case all) exact only
  pub folded : IsFoldedTo case all l.folded exact

-- how many records of the zone were not looked up, and how many with the one that was taken
abbrev pub left_in : Lacking → ℕ
left_in l = length l.only.records

abbrev pub left_with : Option RrRef → Lacking → ℕ
left_with head l = length (with_taken head l.only.records)

-- these are the one that was taken, and those still to come
abbrev pub AreNext : NameCase → List Record → Option RrRef → Lacking → List Record → Type 0
AreNext case all None l only = only ≡ []
AreNext case all (Some r) l only =
    (more : List Record) × (only ≡ record_of r ∷ more) × AreLacking case all l more
