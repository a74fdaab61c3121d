-- The octets that keep records, one after another. All are of one class, which is kept once.
use Rattle.std.specs.Prelude.{◌≡◌, ℕ, zero, suc, List, [], ◌∷◌, ◌++◌, length, flat_map, take, drop, slice_index}
use Rattle.std.specs.List.{AllByRecursion}
use Rattle.std.specs.Int.{from_be_bytes, to_be_bytes, w16, w32}
use Rattle.zone_name.specs.Name.{labels_of, wire}
use Rattle.zone_rdata.specs.Record.{Record, IsRecord}
use Rattle.zone_set.specs.declared.stored.Head.{Head}

-- the octets of a record: TTL, type, the lengths of its owner and of its data, its owner
-- uncompressed, and its data
abbrev pub stored : Record → List ℕ
stored r =
    to_be_bytes w32 r.ttl
    ++ (to_be_bytes w16 r.kind
    ++ (length (wire r.owner) ∷ (to_be_bytes w16 (length r.octets) ++ (wire r.owner ++ r.octets))))

-- the record of a class whose octets these begin with
abbrev pub read_record : ℕ → List ℕ → Record
read_record class octets = record {
  owner = labels_of (take (slice_index octets 6) (drop 9 octets));
  class = class;
  kind = from_be_bytes w16 (take 2 (drop 4 octets));
  ttl = from_be_bytes w32 (take 4 octets);
  octets = take (from_be_bytes w16 (take 2 (drop 7 octets)))
      (drop (slice_index octets 6) (drop 9 octets));
}

-- the record that stands at a place
abbrev pub record_from : ℕ → List ℕ → ℕ → Record
record_from class octets at = read_record class (drop at octets)

-- at the place stand the octets of a record
abbrev pub IsStored : ℕ → List ℕ → ℕ → Type 0
IsStored class octets at =
    (after : List ℕ) × (drop at octets ≡ stored (record_from class octets at) ++ after)

-- the octets keep these records of a class, one after another
pub record AreKept (class : ℕ) (octets : List ℕ) (records : List Record) : Type 0 where
  pub classes : AllByRecursion (λ r. r.class ≡ class) records
  pub whole : AllByRecursion IsRecord records
  pub kept : octets ≡ flat_map stored records

-- the records of a class that octets keep one after another, of which there are at most n
unfoldable pub kept_records : ℕ → ℕ → List ℕ → List Record
kept_records class zero octets = []
kept_records class (suc n) [] = []
kept_records class (suc n) (c ∷ octets) =
    read_record class (c ∷ octets)
    ∷ kept_records class n (drop (length (stored (read_record class (c ∷ octets)))) (c ∷ octets))

-- the nine octets before the owner of the record at a place
abbrev pub IsHead : List ℕ → Head → Type 0
IsHead octets h = h.octets ≡ take 9 (drop h.at octets)
