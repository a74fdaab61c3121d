-- The record that a zone wants can stand in it.
use Rattle.zone_set.proofs.Common.{◌≡◌, ℕ, ◌∙◌, Record, IsZone}
use Rattle.zone_set.specs.Zone.{Zone}
use Rattle.zone_digest.specs.Laws.{HasTtlOfItsSet}
use Rattle.zone_digest.specs.Verdict.{IsZonemd}
use Rattle.zone_digest.specs.Wanted.{IsTtlFor, IsWanted, of_soa, of_zonemd}
use Rattle.zone_digest.specs.declared.algorithm.Algorithm.{Algorithm}
use Rattle.zone_digest.proofs.Zonemds.{one_ttl}

by_ttl : (z : Zone) (s : Record) (ttl : ℕ) → IsZone z → IsZonemd z s → IsTtlFor z ttl → s.ttl ≡ ttl
by_ttl z s _ is zonemd (of_zonemd r other) = one_ttl z s r is zonemd other
by_ttl z s _ is zonemd (of_soa soa has kind none) = absurd (none s zonemd)

pub has_ttl : (z : Zone) (r : Record) (a : Algorithm) → IsZone z → IsWanted z a r → HasTtlOfItsSet z r
has_ttl z r a is wanted s has one =
    by_ttl z s r.ttl is (record { has = has; owner = one.owner ∙ wanted.states.owner; kind = one.kind ∙ wanted.states.kind }) wanted.ttl
