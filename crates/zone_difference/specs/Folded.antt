-- What is kept of an RRset of a zone while records are looked up in it (private).
use Rattle.std.specs.Global.{Vec}
use Rattle.std.specs.Int.{to_be_bytes, w32}
use Rattle.std.specs.List.{AllByRecursion}
use Rattle.std.specs.Ordering.{is_eq}
use Rattle.std.specs.Prelude.{◌≡◌, ◌≢◌, ◌↔◌, ◌⊎◌, ◌++◌, ◌∷◌, ℕ, List, [], Option, Some, None, ⊤}
use Rattle.std.specs.declared.cmp.Ordering.TheVariants.{Less}
use Rattle.data_names.specs.NamesInData.{IsLowered, names_in}
use Rattle.data_names.specs.declared.table.FoldedTypes.TheVariants.{Every}
use Rattle.zone_rdata.specs.Lent.{record_of}
use Rattle.zone_rdata.specs.Record.{IsRecord, Record}
use Rattle.zone_rdata.specs.declared.lent.RrRef.{RrRef}
use Rattle.zone_set.specs.Order.{Ascends, canonical_cmp}
use Rattle.zone_set.specs.Zone.{Has}
use Rattle.zone_difference.specs.Difference.{AreOfOneRrset}
use Rattle.zone_difference.specs.Walk.{with_taken}
use Rattle.zone_difference.specs.declared.folded_sets.FoldedSets.{FoldedSets}

-- the TTL, and the data with its names in lower case
pub record IsKey (r : Record) (key : List ℕ) : Type 0 where
  pub low : List ℕ
  pub parts : key ≡ to_be_bytes w32 r.ttl ++ low
  pub lowered : IsLowered (names_in Every r.kind r.octets) r.octets low

-- some of the keys has these octets
abbrev pub HasKey : List (Vec ℕ) → List ℕ → Type 0
HasKey [] octets = ⊥
HasKey (v ∷ keys) octets = (octets ≡ v.items) ⊎ HasKey keys octets

-- the key of the record is one more
abbrev pub AddsKey : Record → List (Vec ℕ) → List (Vec ℕ) → Type 0
AddsKey r old new = (octets : List ℕ) → HasKey new octets ↔ (IsKey r octets ⊎ HasKey old octets)

-- a record was taken, and it is so
abbrev pub OnTaken : (Record → Type 0) → Option RrRef → Type 0
OnTaken P None = ⊥
OnTaken P (Some rr) = P (record_of rr)

-- the keys are those of the records of the RRset of the one that was taken
abbrev pub AreKeys : List Record → Option RrRef → List (Vec ℕ) → Type 0
AreKeys passed head keys = (octets : List ℕ) → HasKey keys octets
    ↔ ((s : Record) × Has passed s × OnTaken (AreOfOneRrset s) head × IsKey s octets)

-- of all records some were passed; the keys are those of one RRset, all of which were; and these are
-- the records still to be looked up
pub record IsAt (all : List Record) (f : FoldedSets) (wanted : List Record) : Type 0 where
  pub each : AllByRecursion IsRecord all
  pub up : Ascends all
  pub wanted_each : AllByRecursion IsRecord wanted
  pub wanted_up : Ascends wanted
  pub passed : List Record
  pub split : all ≡ passed ++ with_taken f.next f.rest
  pub keys : AreKeys passed f.head f.keys.keys
  pub cut : (s : Record) → Has (with_taken f.next f.rest) s → OnTaken (AreOfOneRrset s) f.head → ⊥
  pub known : (s r : Record) → Has passed s → Has wanted r → AreOfOneRrset s r
      → OnTaken (AreOfOneRrset r) f.head
  pub before : (h r : Record) → OnTaken (λ t. t ≡ h) f.head → Has wanted r
      → (canonical_cmp h r ≡ Less) ⊎ AreOfOneRrset h r

-- of these records some were passed, up to those of the RRset of this one, whose keys these are; one
-- of that RRset was taken, if there is any
pub record IsGathering (old new : List Record) (r : Record) (head : Option RrRef)
    (keys : List (Vec ℕ)) : Type 0 where
  pub passed : List Record
  pub split : old ≡ passed ++ new
  pub are_keys : (octets : List ℕ) → HasKey keys octets
      ↔ ((s : Record) × Has passed s × AreOfOneRrset s r × IsKey s octets)
  pub is_one : (s : Record) → Has passed s → AreOfOneRrset s r → OnTaken (AreOfOneRrset r) head
  pub of_rrset : (h : Record) → OnTaken (λ t. t ≡ h) head → AreOfOneRrset h r
  pub upto : (s : Record) → Has passed s → (canonical_cmp s r ≡ Less) ⊎ AreOfOneRrset s r

-- and all that are left come after it
pub record IsGathered (old new : List Record) (r : Record) (head : Option RrRef)
    (keys : List (Vec ℕ)) : Type 0 where
  pub gathering : IsGathering old new r head keys
  pub after : (s : Record) → Has new s → (canonical_cmp r s ≡ Less) × (AreOfOneRrset r s → ⊥)
