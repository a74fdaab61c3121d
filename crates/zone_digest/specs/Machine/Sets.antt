-- The records of one set, and their canonical forms.
use Rattle.std.specs.Prelude.{◌≡◌, ℕ, List, [], ◌∷◌, ◌⊎◌, ◌↔◌, ⊤}
use Rattle.std.specs.Global.{Vec}
use Rattle.std.specs.List.{AllByRecursion}
use Rattle.zone_rdata.specs.Record.{Record}
use Rattle.zone_set.specs.Zone.{Has, InOneSet}
use Rattle.zone_digest.specs.Digest.{AscendsByOwner, IsLoweredRecord}
use Rattle.data_names.specs.NamesInData.{IsLowered, names_of}

-- records that differ in their data alone
abbrev pub AreAlike : List Record → Type 0
AreAlike records = (r s : Record) → Has records r → Has records s
    → (r.owner ≡ s.owner) × (r.class ≡ s.class) × (r.kind ≡ s.kind) × (r.ttl ≡ s.ttl)

-- the canonical forms of the records, each once, in order
pub record AreLowered (records lower : List Record) : Type 0 where
  pub ascend : AscendsByOwner lower
  pub same : (s : Record) → Has lower s ↔ ((r : Record) × Has records r × IsLoweredRecord r s)

-- some of the data has these octets
abbrev pub HasOctets : List (Vec ℕ) → List ℕ → Type 0
HasOctets [] octets = ⊥
HasOctets (v ∷ many) octets = (octets ≡ v.items) ⊎ HasOctets many octets

-- they are those of one of the records, with its names in lower case
abbrev pub HasLowered : List Record → List ℕ → Type 0
HasLowered records octets =
    (r : Record) × Has records r × IsLowered (names_of r.kind r.octets) r.octets octets

-- the record keeps its octets
abbrev pub StaysLow : Record → Type 0
StaysLow r = IsLowered (names_of r.kind r.octets) r.octets r.octets

-- the record is of the set of the first of these, if there is one
abbrev pub IsOfFirst : List Record → Record → Type 0
IsOfFirst [] r = ⊤
IsOfFirst (s ∷ records) r = InOneSet s r

-- all are of the set of the first
abbrev pub AreOneSet : List Record → Type 0
AreOneSet [] = ⊤
AreOneSet (s ∷ records) = AllByRecursion (InOneSet s) records
