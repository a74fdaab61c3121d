-- Those that were found, and those to come.
use Rattle.std.proofs.Common.{map}
use Rattle.zone_rdata.specs.Lent.{record_of}
use Rattle.zone_rdata.specs.Record.{Record}
use Rattle.zone_set.specs.Zone.{Has}
use Rattle.zone_digest.proofs.Zonemds.{HasFound}
use Rattle.zone_digest.proofs.verdict.zonemds_of.Given as goal

abbrev pub invariant-loop-rr : goal.invariant-loop-rr
invariant-loop-rr l =
    record {
      found : HasFound l.zone (map record_of l.found.items) l.rr-iterator;
      among : (r : Record) → Has l.rr-iterator r → Has l.zone.records r;
    }
