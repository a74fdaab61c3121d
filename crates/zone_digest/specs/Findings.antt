-- What is told of a zone: the verdict on each ZONEMD record at its apex (RFC 8976 4).
use Rattle.std.specs.Prelude.{◌≡◌, List}
use Rattle.std.specs.List.{AllZip}
use Rattle.zone_rdata.specs.Record.{Record}
use Rattle.zone_set.specs.Zone.{Zone}
use Rattle.zone_digest.specs.Verdict.{AreZonemds, IsVerdictOn}
use Rattle.zone_digest.specs.declared.verdict.Finding.{Finding}

-- the record's data and its verdict
pub record IsFinding (z : Zone) (r : Record) (finding : Finding) : Type 0 where
  pub same : finding.octets.now ≡ r.octets
  pub verdict : IsVerdictOn z r finding.verdict

-- the verdict on each ZONEMD record at the apex, in canonical order
pub record AreFindings (z : Zone) (findings : List Finding) : Type 0 where
  pub records : List Record
  pub zonemds : AreZonemds z records
  pub each : AllZip (IsFinding z) records findings
