-- Zones: an apex, a class and a finite set of records (RFC 1035 5.2; RFC 2181 5.2; RFC 5936 2.2).
use Rattle.std.specs.Prelude.{◌≡◌, ℕ, List, [], ◌∷◌, take, ◌==◌, if◌then◌else◌, ◌⊎◌, ◌↔◌}
use Rattle.std.specs.List.{AllByRecursion}
use Rattle.zone_name.specs.Common.{Labels}
use Rattle.zone_name.specs.Name.{IsWithin}
use Rattle.zone_rdata.specs.Record.{Data, Record, IsRecord, data_of}
use Rattle.zone_set.specs.Order.{Ascends}

-- the record is one of these
abbrev pub Has : List Record → Record → Type 0
Has [] r = ⊥
Has (s ∷ records) r = (r ≡ s) ⊎ Has records r

-- two lists with the same records, whatever their order and however often each stands there
abbrev pub SameRecords : List Record → List Record → Type 0
SameRecords records others = (r : Record) → Has records r ↔ Has others r

-- the type that an RRSIG covers, the first two octets of its data (RFC 4034 3); of other types
-- nothing
abbrev pub covered_octets : Data → List ℕ
covered_octets d = if d.kind == 46 then take 2 d.octets else []

-- two records of one set: one owner, one type and, for RRSIG, one type covered (RFC 2181 5)
pub record InOneSet (r s : Record) : Type 0 where
  pub owner : r.owner ≡ s.owner
  pub kind : r.kind ≡ s.kind
  pub covers : covered_octets (data_of r) ≡ covered_octets (data_of s)

-- what records have in common that stand together: one class, one TTL in each set, one SOA at
-- most. A set of records is kept as its one strictly ascending list.
pub record AreCompatible (records : List Record) : Type 0 where
  pub each : AllByRecursion IsRecord records
  pub ascend : Ascends records
  pub one_class : (r s : Record) → Has records r → Has records s → r.class ≡ s.class
  pub one_ttl : (r s : Record) → Has records r → Has records s → InOneSet r s → r.ttl ≡ s.ttl
  pub one_soa : (r s : Record) → Has records r → Has records s → r.kind ≡ 6 → s.kind ≡ 6 → r ≡ s

pub record Zone : Type 0 where
  pub apex : Labels
  pub class : ℕ
  pub records : List Record

-- The records are of the zone's class, exactly one is an SOA and its owner is the apex, and every
-- owner lies at or below the apex.
pub record IsZone (z : Zone) : Type 0 where
  pub compatible : AreCompatible z.records
  pub class : AllByRecursion (λ r. r.class ≡ z.class) z.records
  pub soa : (r : Record) × Has z.records r × (r.kind ≡ 6) × (r.owner ≡ z.apex)
  pub within : AllByRecursion (λ r. IsWithin r.owner z.apex) z.records
