-- The difference of two zones: the records that go and those that come (RFC 1995 4).
use Rattle.std.specs.Prelude.{◌≡◌, ◌↔◌, ◌⊎◌, List, [], ◌∷◌, ⊤}
use Rattle.std.specs.List.{AllByRecursion}
use Rattle.std.specs.declared.cmp.Ordering.TheVariants.{Less}
use Rattle.data_names.specs.NamesInData.{IsLoweredRecord}
use Rattle.data_names.specs.declared.table.FoldedTypes.TheVariants.{Every}
use Rattle.zone_difference.specs.declared.name_case.NameCase.{NameCase}
use Rattle.zone_difference.specs.declared.name_case.NameCase.TheVariants.{Exact, Folded}
use Rattle.zone_rdata.specs.Record.{Record}
use Rattle.zone_set.specs.Order.{Ascends, canonical_cmp}
use Rattle.zone_set.specs.Zone.{Has}

-- the same record but for letters of names in its data (RFC 4343)
abbrev pub AreAlike : Record → Record → Type 0
AreAlike r s = (low : Record) × IsLoweredRecord Every r low × IsLoweredRecord Every s low

-- one of the records is this one, or is so but for letters of names in its data
abbrev pub HasEqual : NameCase → List Record → Record → Type 0
HasEqual Exact records r = Has records r
HasEqual Folded records r = (s : Record) × Has records s × AreAlike r s

-- the records of one list of which the other has no equal, in canonical order
pub record AreOnlyIn (case : NameCase) (records others only : List Record) : Type 0 where
  pub ascend : Ascends only
  pub are : (r : Record) → Has only r ↔ (Has records r × (HasEqual case others r → ⊥))

-- what is removed from the first records and what is added to them makes the second
pub record IsDifference (case : NameCase) (records others removed added : List Record) : Type 0 where
  pub gone : AreOnlyIn case records others removed
  pub come : AreOnlyIn case others records added

-- the record is one of those that aren't removed, or one of those that are added
abbrev pub IsPatchedOf : List Record → List Record → List Record → Record → Type 0
IsPatchedOf records removed added r = (Has records r × (Has removed r → ⊥)) ⊎ Has added r

-- records without those that are removed and with those that are added
abbrev pub IsPatched : List Record → List Record → List Record → List Record → Type 0
IsPatched records removed added patched =
    (r : Record) → Has patched r ↔ IsPatchedOf records removed added r

-- the same but for letters of names in data: each has an equal among the others
pub record IsPatchedButForLetters (records removed added patched : List Record) : Type 0 where
  pub there : (r : Record) → IsPatchedOf records removed added r → HasEqual Folded patched r
  pub back : (s : Record) → Has patched s
      → (r : Record) × IsPatchedOf records removed added r × AreAlike s r

-- one of the records is this one with the names in its data in lower case
abbrev pub HasFolded : List Record → Record → Type 0
HasFolded records low = (r : Record) × Has records r × IsLoweredRecord Every r low

-- with the names in their data in lower case they are the same records
abbrev pub AreOneFolded : List Record → List Record → Type 0
AreOneFolded records others = (low : Record) → HasFolded records low ↔ HasFolded others low

-- a change from one zone to another: a record that goes, or one that comes
pub data Change : Type 0 where
  removal : Record → Change
  addition : Record → Change

abbrev pub removed_of : List Change → List Record
removed_of [] = []
removed_of (removal r ∷ changes) = r ∷ removed_of changes
removed_of (addition r ∷ changes) = removed_of changes

abbrev pub added_of : List Change → List Record
added_of [] = []
added_of (removal r ∷ changes) = added_of changes
added_of (addition r ∷ changes) = r ∷ added_of changes

-- two records of one RRset: they have one owner, class and type (RFC 2181 5)
pub record AreOfOneRrset (r s : Record) : Type 0 where
  pub owner : r.owner ≡ s.owner
  pub class : r.class ≡ s.class
  pub kind : r.kind ≡ s.kind

-- a change comes before another in canonical order; but all removals of an RRset come before its
-- additions
abbrev pub GoesBefore : Change → Change → Type 0
GoesBefore (removal r) (removal s) = canonical_cmp r s ≡ Less
GoesBefore (removal r) (addition s) = (canonical_cmp r s ≡ Less) ⊎ AreOfOneRrset r s
GoesBefore (addition r) (removal s) = (canonical_cmp r s ≡ Less) × (AreOfOneRrset r s → ⊥)
GoesBefore (addition r) (addition s) = canonical_cmp r s ≡ Less

-- each change before all that follow it
abbrev pub AreInOrder : List Change → Type 0
AreInOrder [] = ⊤
AreInOrder (c ∷ changes) = AllByRecursion (GoesBefore c) changes × AreInOrder changes

-- the changes from the first records to the second, in order
pub record AreChanges (case : NameCase) (records others : List Record)
    (changes : List Change) : Type 0 where
  pub difference : IsDifference case records others (removed_of changes) (added_of changes)
  pub order : AreInOrder changes
