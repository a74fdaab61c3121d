-- The ZONEMD record that a zone wants (RFC 8976 2.2).
use Rattle.std.specs.Prelude.{◌≡◌, ℕ, ◌∷◌, ◌++◌}
use Rattle.zone_name.specs.Common.{NothingIs, Octets}
use Rattle.zone_rdata.specs.Record.{Record}
use Rattle.zone_set.specs.Zone.{Has, Zone}
use Rattle.zone_digest.specs.Digest.{IsDigest}
use Rattle.zone_digest.specs.Verdict.{IsSerial, IsZonemd, digest_octets, number}
use Rattle.zone_digest.specs.declared.algorithm.Algorithm.{Algorithm}
use Rattle.zone_digest.specs.declared.algorithm.ZoneDigest.{ZoneDigest}

-- a ZONEMD record at the apex with the zone's serial, scheme SIMPLE and its digest by an algorithm
pub record StatesDigest (z : Zone) (a : Algorithm) (r : Record) : Type 0 where
  pub owner : r.owner ≡ z.apex
  pub kind : r.kind ≡ 63
  pub serial : Octets
  pub is_serial : IsSerial z serial
  pub digest : ZoneDigest
  pub is_digest : IsDigest z a digest
  pub octets : r.octets ≡ serial ++ 1 ∷ number a ∷ digest_octets digest

-- its TTL: that of the ZONEMD records at the apex, since the records of a set have one (RFC 2181
-- 5.2); where there are none the SOA's
pub data IsTtlFor (z : Zone) : ℕ → Type 0 where
  of_zonemd : (r : Record) → IsZonemd z r → IsTtlFor z r.ttl
  of_soa : (soa : Record) → Has z.records soa → soa.kind ≡ 6 → NothingIs (IsZonemd z)
      → IsTtlFor z soa.ttl

-- the record that states the zone's digest by an algorithm, of the zone's class and with that TTL
pub record IsWanted (z : Zone) (a : Algorithm) (r : Record) : Type 0 where
  pub states : StatesDigest z a r
  pub class : r.class ≡ z.class
  pub ttl : IsTtlFor z r.ttl
