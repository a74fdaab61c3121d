-- The digest of a zone (RFC 8976 3): which records, in which order and as which octets.
use Rattle.std.specs.Prelude.{◌≡◌, List, [], ◌∷◌, ◌++◌, length, take, ◌⊎◌, ◌↔◌, ⊤}
use Rattle.std.specs.Int.{to_be_bytes, w16, w32}
use Rattle.std.specs.List.{AllByRecursion, flat_map}
use Rattle.std.specs.Ordering.{on, then_cmp}
use Rattle.std.specs.declared.cmp.Ordering.{Ordering}
use Rattle.std.specs.declared.cmp.Ordering.TheVariants.{Less}
use Rattle.sha2.specs.Sha512.{sha384, sha512}
use Rattle.zone_name.specs.Common.{Labels, Octets}
use Rattle.zone_name.specs.Name.{wire}
use Rattle.zone_name.specs.Order.{name_cmp}
use Rattle.zone_rdata.specs.Order.{data_cmp}
use Rattle.zone_rdata.specs.Record.{Record, data_of}
use Rattle.zone_set.specs.Zone.{Has, Zone}
use Rattle.data_names.specs.NamesInData as names
use Rattle.data_names.specs.declared.table.FoldedTypes.TheVariants.{Canonical}
use Rattle.zone_digest.specs.declared.algorithm.Algorithm.{Algorithm}
use Rattle.zone_digest.specs.declared.algorithm.Algorithm.TheVariants as algorithms
use Rattle.zone_digest.specs.declared.algorithm.ZoneDigest.{ZoneDigest}
use Rattle.zone_digest.specs.declared.algorithm.ZoneDigest.TheVariants as digests

-- the octets of a record with this data (RFC 4034 6.2): owner, type, class, TTL, the length of the
-- data and the data
abbrev pub octets_with : Record → Octets → Octets
octets_with r octets =
    wire r.owner ++ (to_be_bytes w16 r.kind ++ (to_be_bytes w16 r.class ++ (to_be_bytes w32 r.ttl
    ++ (to_be_bytes w16 (length octets) ++ octets))))

abbrev pub record_octets : Record → Octets
record_octets r = octets_with r r.octets

-- a ZONEMD record (type 63) at the apex, and an RRSIG record (46) there that covers ZONEMD, as the
-- first two octets of its data say (RFC 8976 3.3.1)
abbrev pub IsLeftOut : Labels → Record → Type 0
IsLeftOut apex r =
    (r.owner ≡ apex) × ((r.kind ≡ 63) ⊎ ((r.kind ≡ 46) × (take 2 r.octets ≡ 0 ∷ 63 ∷ [])))

-- the canonical form of a record (RFC 4034 6.2): the names in its data in lower case
abbrev pub IsLoweredRecord : Record → Record → Type 0
IsLoweredRecord r lower = names.IsLoweredRecord Canonical r lower

-- by owner (RFC 4034 6.1), then by type, then by data (6.3); a zone has one class
abbrev pub digest_cmp : Record → Record → Ordering
digest_cmp = then_cmp (on (λ r. r.owner) name_cmp) (on data_of data_cmp)

-- each record before all that follow it
abbrev pub AscendsByOwner : List Record → Type 0
AscendsByOwner [] = ⊤
AscendsByOwner (r ∷ records) =
    AllByRecursion (λ s. digest_cmp r s ≡ Less) records × AscendsByOwner records

-- the canonical form of a record of the zone that isn't left out
abbrev pub IsDigested : Zone → Record → Type 0
IsDigested z lower =
    (r : Record) × Has z.records r × (IsLeftOut z.apex r → ⊥) × IsLoweredRecord r lower

-- the digested records, each once, in order (RFC 8976 3.3.1, 3.3.2)
pub record AreDigested (z : Zone) (records : List Record) : Type 0 where
  pub ascend : AscendsByOwner records
  pub same : (r : Record) → Has records r ↔ IsDigested z r

-- the joined octets of the digested records
abbrev pub AreDigestOctets : Zone → Octets → Type 0
AreDigestOctets z octets =
    (records : List Record) × AreDigested z records × (octets ≡ flat_map record_octets records)

-- SHA-384 and SHA-512 (FIPS 180-4) of octets
abbrev pub hashed : Algorithm → Octets → ZoneDigest
hashed algorithms.Sha384 octets = digests.Sha384 (sha384 octets)
hashed algorithms.Sha512 octets = digests.Sha512 (sha512 octets)

-- the digest of a zone, of scheme SIMPLE (RFC 8976 3.3)
abbrev pub IsDigest : Zone → Algorithm → ZoneDigest → Type 0
IsDigest z algorithm digest =
    (octets : Octets) × AreDigestOctets z octets × (digest ≡ hashed algorithm octets)
