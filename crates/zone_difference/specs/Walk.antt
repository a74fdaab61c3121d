-- What is left of a walk over the records of two zones (private).
use Rattle.std.specs.Prelude.{◌≡◌, List, [], ◌∷◌, ◌⊎◌, ⊤, Option, Some, None}
use Rattle.zone_rdata.specs.Lent.{record_of}
use Rattle.zone_rdata.specs.Record.{Record}
use Rattle.zone_rdata.specs.declared.lent.RrRef.{RrRef}
use Rattle.zone_set.specs.Order.{Ascends}
use Rattle.zone_set.specs.Zone.{Has}
use Rattle.zone_difference.specs.Difference.{Change, GoesBefore, addition, removal}
use Rattle.zone_difference.specs.declared.changes.ChangeRef.{ChangeRef}
use Rattle.zone_difference.specs.declared.changes.ChangeRef.TheVariants as refs
use Rattle.zone_difference.specs.declared.only_in.OnlyIn.{OnlyIn}

-- the record that was taken, and those after it
abbrev pub with_taken : Option RrRef → List Record → List Record
with_taken None records = []
with_taken (Some r) records = record_of r ∷ records

-- two ascending lists of records
pub record AreSides (records others : List Record) : Type 0 where
  pub up : Ascends records
  pub up_others : Ascends others

-- of these records those that aren't P, in their order
abbrev pub AreWithout : (Record → Type 0) → List Record → List Record → Type 0
AreWithout P [] only = only ≡ []
AreWithout P (r ∷ records) only =
    (P r × AreWithout P records only)
    ⊎ ((P r → ⊥) × ((more : List Record) × (only ≡ r ∷ more) × AreWithout P records more))

-- the other zone's records that were not passed
abbrev pub others_of : OnlyIn → List Record
others_of o = with_taken o.other o.others

-- the records of one zone alone that are still to come
pub record AreToCome (o : OnlyIn) (only : List Record) : Type 0 where
  pub sides : AreSides o.records (others_of o)
  pub are : AreWithout (Has (others_of o)) o.records only

-- these are the one that was taken, and those still to come
abbrev pub AreTaken : Option RrRef → OnlyIn → List Record → Type 0
AreTaken None o only = only ≡ []
AreTaken (Some r) o only =
    (more : List Record) × (only ≡ record_of r ∷ more) × AreToCome o more

abbrev pub change_of : ChangeRef → Change
change_of (refs.Removal rr) = removal (record_of rr)
change_of (refs.Addition rr) = addition (record_of rr)

-- the first of records is so, if there is one
abbrev pub OnFirst : (Record → Type 0) → List Record → Type 0
OnFirst P [] = ⊤
OnFirst P (r ∷ records) = P r

-- the change is the first of those by which records go and come; after it these do
abbrev pub IsFirstOf : Change → List Record → List Record → List Record → List Record → Type 0
IsFirstOf (removal r) gone come gone' come' =
    (gone ≡ r ∷ gone') × (come' ≡ come) × OnFirst (λ s. GoesBefore (removal r) (addition s)) come
IsFirstOf (addition s) gone come gone' come' =
    (come ≡ s ∷ come') × (gone' ≡ gone) × OnFirst (λ r. GoesBefore (addition s) (removal r)) gone
