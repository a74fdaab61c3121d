-- A record is found, or is no ZONEMD record at the apex.
use Rattle.std.proofs.Common.{◌≡◌, ◌∷◌, ◌++◌, [], map, sym, ◌∙◌, subst, arith, inr}
use Rattle.zone_rdata.specs.Lent.{record_of}
use Rattle.zone_rdata.specs.Record.{Record}
use Rattle.zone_set.specs.Zone.{Has}
use Rattle.zone_digest.proofs.Sets.{pushed_record}
use Rattle.zone_digest.proofs.Zonemds.{HasFound, not_found, one_found, past_apex}
use Rattle.zone_digest.proofs.verdict.zonemds_of.Goals as goal

pub returns-then-not-is_same-clause-found : goal.returns-then-not-is_same-clause-found
returns-then-not-is_same-clause-found c =
    let z = c.args.zone.now in
    let old = map record_of c.loop-rr.found.items in
    let x = record_of c.in-Some.rr in
    past_apex z old c.next.new.self x c.records-rr-items.ensures.zone (subst (λ l. (r : Record) → Has l r → Has z.records r) c.in-Some.ensures.steps c.loop-rr.invariant.among) (subst (HasFound z old) c.in-Some.ensures.steps c.loop-rr.invariant.found)
    (λ at. (let is = c.is_same.ensures.1 (at ∙ sym (c.lend-apex.ensures.value ∙ c.apex.ensures)) in grind (arith, is, c.if-not-is_same.true)))

pub loop-rr-preserved-in-Continue-1 : goal.loop-rr-preserved-in-Continue-1
loop-rr-preserved-in-Continue-1 c =
    let z = c.args.zone.now in
    let old = map record_of c.loop-rr.found.items in
    let x = record_of c.in-Some.rr in
    let h = subst (HasFound z old) c.in-Some.ensures.steps c.loop-rr.invariant.found in
    let at = c.is_same.ensures.0 c.if-not-is_same.false in
    let grown : map record_of c.push.new.self.items ≡ old ++ x ∷ [] = pushed_record c.loop-rr.found.items c.push.new.self.items c.in-Some.rr c.in_ok-push.ensures.items in
    record {
      found = subst (λ s. HasFound z s c.next.new.self) (sym grown) (one_found z old c.next.new.self x h (at ∙ c.lend-apex.ensures.value ∙ c.apex.ensures) (sym c.number.ensures.value ∙ c.if-number-eq-ZONEMD.true));
      among = λ r has. c.loop-rr.invariant.among r (subst (λ l. Has l r) (sym c.in-Some.ensures.steps) (inr has));
    }

pub loop-rr-preserved : goal.loop-rr-preserved
loop-rr-preserved c =
    let z = c.args.zone.now in
    let old = map record_of c.loop-rr.found.items in
    let x = record_of c.in-Some.rr in
    let h = subst (HasFound z old) c.in-Some.ensures.steps c.loop-rr.invariant.found in
    record {
      found = not_found z old c.next.new.self x h (λ both. c.if-number-eq-ZONEMD.false (c.number.ensures.value ∙ both.1));
      among = λ r has. c.loop-rr.invariant.among r (subst (λ l. Has l r) (sym c.in-Some.ensures.steps) (inr has));
    }
