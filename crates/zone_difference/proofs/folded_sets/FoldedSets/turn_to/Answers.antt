-- The keys are those of the RRset already, or the RRset is gathered.
use Rattle.std.proofs.Common.{IsTrue, subst}
use Rattle.zone_rdata.specs.Lent.{record_of}
use Rattle.zone_set.proofs.Ordering.Between.{Ascends-right}
use Rattle.zone_set.specs.Order.{Ascends}
use Rattle.zone_difference.proofs.Looking.{at_next, kept_is_alike, key_is_alike, passed_over}
use Rattle.zone_difference.specs.Difference.{AreOfOneRrset}
use Rattle.zone_difference.specs.Folded.{OnTaken}
use Rattle.zone_difference.proofs.folded_sets.FoldedSets.turn_to.Goals as goal

pub gather-requires-clause-up : goal.gather-requires-clause-up
gather-requires-clause-up c = let at = c.requires.2 in Ascends-right at.passed _ (subst Ascends at.split at.up)

pub returns-then-is_of_rrset : goal.returns-then-is_of_rrset
returns-then-is_of_rrset c all others given =
    let r = record_of c.args.rr.now in
    let same : OnTaken (AreOfOneRrset r) c.args.self.now.head = c.is_of_rrset.ensures.0 (let is = c.if-is_of_rrset.true in cc) in
    (passed_over all others r _ given, kept_is_alike all others r _ given same)

pub returns : goal.returns
returns c all others given =
    let r = record_of c.args.rr.now in
    let other : OnTaken (AreOfOneRrset r) c.args.self.now.head → ⊥ = λ on. (let is = c.is_of_rrset.ensures.1 on in let no = c.if-is_of_rrset.false in cc) in
    (at_next all others r _ _ given other c.in_ok-self.ensures, key_is_alike all others r _ _ given other c.in_ok-self.ensures)
