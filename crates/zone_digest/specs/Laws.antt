-- What the laws speak of.
use Rattle.std.specs.Prelude.{◌≡◌, ◌≢◌, List, [], ◌∷◌, ◌⊎◌, ◌↔◌}
use Rattle.std.specs.List.{AllZip}
use Rattle.zone_rdata.specs.Record.{Record}
use Rattle.zone_set.specs.Zone.{Has, InOneSet, Zone}
use Rattle.zone_digest.specs.Digest.{IsLeftOut, IsLoweredRecord}
use Rattle.zone_digest.specs.Verdict.{Fields, HasFields, IsZonemd, number}
use Rattle.zone_digest.specs.declared.algorithm.Algorithm.{Algorithm}
use Rattle.zone_digest.specs.declared.verdict.Finding.{Finding}
use Rattle.zone_digest.specs.declared.verdict.Verdict.TheVariants.{Verified}

-- records that differ at most in the letters of names in their data
abbrev pub AreOfOneForm : Record → Record → Type 0
AreOfOneForm r s = (lower : Record) × IsLoweredRecord r lower × IsLoweredRecord s lower

-- zones of one apex whose records differ at most in such letters
pub record DifferInLetters (z w : Zone) : Type 0 where
  pub apex : z.apex ≡ w.apex
  pub there : (r : Record) → Has z.records r → (s : Record) × Has w.records s × AreOfOneForm r s
  pub back : (s : Record) → Has w.records s → (r : Record) × Has z.records r × AreOfOneForm r s

-- zones of one apex that differ at most in records that no digest has: ZONEMD records at the apex,
-- and RRSIG records there that cover them
pub record DifferInLeftOut (z w : Zone) : Type 0 where
  pub apex : z.apex ≡ w.apex
  pub same : (r : Record) → (IsLeftOut z.apex r → ⊥) → Has z.records r ↔ Has w.records r

-- no ZONEMD record at the apex has this scheme and hash algorithm
abbrev pub HasNoPair : Zone → Algorithm → Type 0
HasNoPair z a = (r : Record) (f : Fields) → IsZonemd z r → HasFields r.octets f → f.scheme ≡ 1
    → f.algorithm ≢ number a

-- the zone with one record more
pub record HasOneMore (z : Zone) (r : Record) (w : Zone) : Type 0 where
  pub apex : w.apex ≡ z.apex
  pub same : (s : Record) → Has w.records s ↔ ((s ≡ r) ⊎ Has z.records s)

-- a record that has the TTL of the zone's records of its set (RFC 2181 5.2)
abbrev pub HasTtlOfItsSet : Zone → Record → Type 0
HasTtlOfItsSet z r = (s : Record) → Has z.records s → InOneSet s r → s.ttl ≡ r.ttl

-- one of the findings is that a record is verified
abbrev pub TellsVerified : List Finding → Type 0
TellsVerified [] = ⊥
TellsVerified (finding ∷ findings) = (finding.verdict ≡ Verified) ⊎ TellsVerified findings

-- findings that tell the same of the same data, one after another
abbrev pub TellTheSame : List Finding → List Finding → Type 0
TellTheSame = AllZip (λ f g. (f.octets.now ≡ g.octets.now) × (f.verdict ≡ g.verdict))
