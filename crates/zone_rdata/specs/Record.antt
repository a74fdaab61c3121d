-- Resource records (RFC 1035 3.2.1) as contracts see them.
use Rattle.std.specs.Prelude.{ℕ, ◌≤◌, List, []}
use Rattle.zone_name.specs.Common.{Labels}
use Rattle.zone_name.specs.Name.{IsName}
use Rattle.zone_rdata.specs.Words.{IsClass, IsKind}
use Rattle.zone_rdata.specs.Layout.{IsData}
use Rattle.zone_rdata.specs.Limits.{greatest_ttl}

-- class, type and canonical octets of record data: in one class and type, equal octets are equal
-- values
pub record Data : Type 0 where
  pub class : ℕ
  pub kind : ℕ
  pub octets : List ℕ

-- no octets, in class IN (1) and of the type NULL (10), which may have any (RFC 1035 3.3.10)
abbrev pub empty_data : Data
empty_data = record { class = 1; kind = 10; octets = [] }

-- data that records can have
pub record IsRdata (d : Data) : Type 0 where
  pub class : IsClass d.class
  pub kind : IsKind d.kind
  pub octets : IsData d.class d.kind d.octets

-- a record: owner, class, type, TTL in seconds and the canonical octets of its data
pub record Record : Type 0 where
  pub owner : Labels
  pub class : ℕ
  pub kind : ℕ
  pub ttl : ℕ
  pub octets : List ℕ

abbrev pub data_of : Record → Data
data_of r = record { class = r.class; kind = r.kind; octets = r.octets }

-- the record of an owner, a TTL in seconds and data
abbrev pub record_with : List (List ℕ) → ℕ → Data → Record
record_with owner ttl d =
    record { owner = owner; class = d.class; kind = d.kind; ttl = ttl; octets = d.octets }

-- a record that can stand in a zone (RFC 2181 8: a TTL has 31 bits)
pub record IsRecord (r : Record) : Type 0 where
  pub owner : IsName r.owner
  pub ttl : r.ttl ≤ greatest_ttl
  pub rdata : IsRdata (data_of r)
