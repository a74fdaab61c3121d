-- The verdict on a ZONEMD record at the apex of a zone (RFC 8976 4, without DNSSEC).
use Rattle.std.specs.Prelude.{◌≡◌, ◌≢◌, ◌≤◌, ◌↔◌, ℕ, List, ◌∷◌, ◌++◌, length}
use Rattle.zone_name.specs.Common.{Octets}
use Rattle.zone_rdata.specs.Record.{Record}
use Rattle.zone_set.specs.Order.{Ascends}
use Rattle.zone_set.specs.Zone.{Has, Zone}
use Rattle.zone_digest.specs.Digest.{IsDigest}
use Rattle.zone_digest.specs.declared.algorithm.Algorithm.{Algorithm}
use Rattle.zone_digest.specs.declared.algorithm.Algorithm.TheVariants as algorithms
use Rattle.zone_digest.specs.declared.algorithm.ZoneDigest.{ZoneDigest}
use Rattle.zone_digest.specs.declared.algorithm.ZoneDigest.TheVariants as digests
use Rattle.zone_digest.specs.declared.verdict.Verdict.{Verdict}
use Rattle.zone_digest.specs.declared.verdict.Verdict.TheVariants as verdicts

-- the fields of ZONEMD data (RFC 8976 2.2)
pub record Fields : Type 0 where
  pub serial : Octets
  pub scheme : ℕ
  pub algorithm : ℕ
  pub digest : Octets

-- data that begins as ZONEMD data does: 4 octets of serial, one of scheme, one of hash algorithm
pub record HasFields (octets : Octets) (f : Fields) : Type 0 where
  pub serial : length f.serial ≡ 4
  pub parts : octets ≡ f.serial ++ f.scheme ∷ f.algorithm ∷ f.digest

-- a ZONEMD record at the apex
pub record IsZonemd (z : Zone) (r : Record) : Type 0 where
  pub has : Has z.records r
  pub owner : r.owner ≡ z.apex
  pub kind : r.kind ≡ 63

-- the ZONEMD records at the apex, each once, in canonical order
pub record AreZonemds (z : Zone) (records : List Record) : Type 0 where
  pub ascend : Ascends records
  pub same : (r : Record) → Has records r ↔ IsZonemd z r

-- the number of a hash algorithm (RFC 8976 5.3)
abbrev pub number : Algorithm → ℕ
number algorithms.Sha384 = 1
number algorithms.Sha512 = 2

-- the octets of a digest
abbrev pub digest_octets : ZoneDigest → Octets
digest_octets (digests.Sha384 octets) = octets
digest_octets (digests.Sha512 octets) = octets

-- how many octets a digest has
abbrev pub digest_size : Algorithm → ℕ
digest_size algorithms.Sha384 = 48
digest_size algorithms.Sha512 = 64

-- data with a digest of at least 12 octets, and of scheme SIMPLE (1) of as many as its hash
-- algorithm has (RFC 8976 2.2.4)
pub record IsWellFormed (octets : Octets) (f : Fields) : Type 0 where
  pub fields : HasFields octets f
  pub long : 12 ≤ length f.digest
  pub size : (a : Algorithm) → f.scheme ≡ 1 → f.algorithm ≡ number a
      → length f.digest ≡ digest_size a

-- the serial of the zone's SOA: the first of the five numbers of 4 octets that end its data (RFC
-- 1035 3.3.13)
pub record IsSerial (z : Zone) (serial : Octets) : Type 0 where
  pub soa : Record
  pub has : Has z.records soa
  pub kind : soa.kind ≡ 6
  pub front : Octets
  pub back : Octets
  pub parts : soa.octets ≡ front ++ (serial ++ back)
  pub len : length serial ≡ 4
  pub others : length back ≡ 16

-- another ZONEMD record at the apex has the same scheme and hash algorithm (RFC 8976 2: each pair
-- once)
pub record IsRepeated (z : Zone) (r : Record) (f : Fields) : Type 0 where
  pub other : Record
  pub zonemd : IsZonemd z other
  pub differs : other ≢ r
  pub fields : Fields
  pub parts : HasFields other.octets fields
  pub scheme : fields.scheme ≡ f.scheme
  pub algorithm : fields.algorithm ≡ f.algorithm

-- a digest of the zone, by this hash algorithm
abbrev pub IsDigestOf : Zone → Algorithm → Octets → Type 0
IsDigestOf z a octets = (d : ZoneDigest) × IsDigest z a d × (octets ≡ digest_octets d)

-- well-formed data that has the zone's serial
abbrev pub HasSerial : Zone → Octets → Fields → Type 0
HasSerial z octets f = IsWellFormed octets f × IsSerial z f.serial

-- such data with scheme SIMPLE and this hash algorithm
pub record IsSupported (z : Zone) (r : Record) (f : Fields) (a : Algorithm) : Type 0 where
  pub serial : HasSerial z r.octets f
  pub scheme : f.scheme ≡ 1
  pub algorithm : f.algorithm ≡ number a

-- the verdict: the first of these that holds
pub data IsVerdictOn (z : Zone) (r : Record) : Verdict → Type 0 where
  malformed : ((f : Fields) → IsWellFormed r.octets f → ⊥) → IsVerdictOn z r verdicts.Malformed
  other_serial : (f : Fields) → IsWellFormed r.octets f → (IsSerial z f.serial → ⊥)
      → IsVerdictOn z r verdicts.OtherSerial
  unknown_scheme : (f : Fields) → HasSerial z r.octets f → f.scheme ≢ 1
      → IsVerdictOn z r verdicts.UnknownScheme
  unknown_algorithm : (f : Fields) → HasSerial z r.octets f → f.scheme ≡ 1
      → ((a : Algorithm) → f.algorithm ≢ number a) → IsVerdictOn z r verdicts.UnknownAlgorithm
  repeated : (f : Fields) (a : Algorithm) → IsSupported z r f a → IsRepeated z r f
      → IsVerdictOn z r verdicts.Repeated
  differs : (f : Fields) (a : Algorithm) → IsSupported z r f a → (IsRepeated z r f → ⊥)
      → (IsDigestOf z a f.digest → ⊥) → IsVerdictOn z r verdicts.Differs
  verified : (f : Fields) (a : Algorithm) → IsSupported z r f a → (IsRepeated z r f → ⊥)
      → IsDigestOf z a f.digest → IsVerdictOn z r verdicts.Verified

-- the zone is verified: one of its ZONEMD records at the apex is
abbrev pub IsVerified : Zone → Type 0
IsVerified z = (r : Record) × IsZonemd z r × IsVerdictOn z r verdicts.Verified
