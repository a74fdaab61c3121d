-- The hasher has the canonical forms of the records that are passed.
use Rattle.std.proofs.Common.{map}
use Rattle.zone_rdata.specs.Lent.{record_of}
use Rattle.zone_set.specs.Zone.{IsZone}
use Rattle.zone_digest.specs.Machine.Walk.{HasWalked, by_owner}
use Rattle.zone_digest.proofs.digest.digest_under.Given as goal

abbrev pub invariant-loop-rr : goal.invariant-loop-rr
invariant-loop-rr g l = record {
  zone : IsZone l.zone;
  walked : HasWalked (g.D.Digest.holds l.hasher) l.zone.apex (by_owner l.zone.records) (map record_of l.set.items) l.rr-iterator;
}
