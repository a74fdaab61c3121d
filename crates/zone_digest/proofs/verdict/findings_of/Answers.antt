-- Each is told in its turn.
use Rattle.std.proofs.Common.{◌≡◌, ◌⊎◌, arith, subst, true}
use Rattle.zone_rdata.specs.Lent.{record_of}
use Rattle.zone_digest.proofs.SeenBefore.{seen_elsewhere, seen_more}
use Rattle.zone_digest.proofs.Zonemds.{has_item, told_more}
use Rattle.zone_digest.specs.Machine.Seen.{HasPair, has_seen}
use Rattle.zone_digest.proofs.verdict.findings_of.Goals as goal

pub verdict_of-requires-clause-zonemd : goal.verdict_of-requires-clause-zonemd
verdict_of-requires-clause-zonemd c = (c.requires.found.same (record_of c.rr-item.result)).0 (has_item c.args.found.now c.loop-rr.rr-index c.rr-item.result c.rr-item.is (omega (arith, c.loop-rr-test.true)))

pub verdict_of-requires-clause-seen : goal.verdict_of-requires-clause-seen
verdict_of-requires-clause-seen c = seen_elsewhere c.args.zone.now c.args.found.now c.loop-rr.rr-index c.rr-item.result c.loop-rr.seen c.requires.found c.rr-item.is (omega (arith, c.loop-rr-test.true)) c.loop-rr.invariant.are_seen

pub loop-rr-preserved : goal.loop-rr-preserved
loop-rr-preserved c = record {
  told = told_more c.args.zone.now c.args.found.now c.loop-rr.rr-index c.rr-item.result c.loop-rr.findings.items c.push.new.self.items _ c.rr-item.is (omega (arith, c.loop-rr-test.true)) c.in_ok-push.ensures.items c.loop-rr.invariant.told
      (record { same = c.octets-octets.ensures; verdict = c.in_ok-verdict.ensures });
  are_seen = seen_more c.args.found.now c.loop-rr.rr-index c.rr-item.result c.loop-rr.seen _ c.rr-item.is (omega (arith, c.loop-rr-test.true)) c.loop-rr.invariant.are_seen
      (λ a has. subst (λ o. (has_seen c.loop-rr.seen a ≡ true) ⊎ HasPair o a) c.octets-octets.ensures (c.with-seen.ensures a has));
}
