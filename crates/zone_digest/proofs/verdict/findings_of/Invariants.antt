-- What is told of those that were looked at.
use Rattle.std.proofs.Common.{map, take}
use Rattle.std.specs.List.{AllZip}
use Rattle.zone_rdata.specs.Lent.{record_of}
use Rattle.zone_digest.specs.Findings.{IsFinding}
use Rattle.zone_digest.specs.Machine.Seen.{AreSeen}
use Rattle.zone_digest.proofs.verdict.findings_of.Given as goal

abbrev pub invariant-loop-rr : goal.invariant-loop-rr
invariant-loop-rr l = record {
  told : AllZip (IsFinding l.zone) (map record_of (take l.rr-index l.found)) l.findings.items;
  are_seen : AreSeen (map record_of (take l.rr-index l.found)) l.seen;
}
