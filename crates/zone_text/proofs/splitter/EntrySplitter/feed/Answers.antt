use Rattle.zone_text.proofs.Common.{length, refl, subst, sym, true, ◌∙◌}
use Rattle.zone_text.proofs.Scanning.FirstEntries.{keeps_items, fed_entry}
use Rattle.zone_text.proofs.Scanning.Walking.{first_of}
use Rattle.zone_text.proofs.Entries.Begun.{none_found, none_left, some_found}
use Rattle.zone_text.proofs.Scanning.FedPieces.{fed_all, fed_fault, not_empty}
use Rattle.zone_text.specs.Machine.Stops.{Tells}
use Rattle.zone_text.proofs.splitter.EntrySplitter.feed.Goals as goal
use Rattle.zone_text.proofs.splitter.EntrySplitter.feed.Goals.{then-loop-self-test+else-is_none, else-loop-self-test}

pub loop-self-preserved-in-Ends : goal.loop-self-preserved-in-Ends
loop-self-preserved-in-Ends c =
    let first = first_of _ _ _ _ (rw c.in-Ends.is at c.in_ok-len.ensures.walked) in
    let read = c.in_ok-read.ensures (rw c.deref.ensures.value (keeps_items _ _ _ _ first c.split_at.ensures.front)) in
    let none = none_found c.loop-self.self.ended.decided.ending c.if-is_none.ensures in
    record {
      fed = fed_entry c.args.self.now c.loop-self.self _ c.args.piece.now c.loop-self.rest.now c.split_at.result.0.now c.split_at.result.1.now c.in-Ends.len _ c.loop-self.invariant.fed none (sym c.octets.ensures ∙ none_left c.octets.result.now (length c.octets.result.now) c.is_empty-in-loop-self.result refl c.is_empty-in-loop-self.ensures c.if-is_empty.true) first c.split_at.ensures.front c.split_at.ensures.back read refl;
      tells = subst (Tells c.walk.new.known) (sym c.split_at.ensures.back) (rw c.in-Ends.is at c.in_ok-len.ensures.known);
      nothing = λ e. absurd (not_empty c.loop-self.rest.now c.loop-self-test.ensures (c.loop-self.invariant.nothing e).1);
    }

pub returns-clause-follow : goal.returns-clause-follow
returns-clause-follow c =
    elim c.loop-self-test.branch [
      | then-loop-self-test+else-is_none w ↦
          let found = some_found c.loop-self.self.ended.decided.ending w.if-is_none.ensures in
          fed_fault c.args.self.now c.loop-self.self c.args.piece.now c.loop-self.rest.now found.0 c.loop-self.invariant.fed found.1
      | else-loop-self-test w ↦ fed_all c.args.self.now c.loop-self.self c.args.piece.now c.loop-self.rest.now c.loop-self.invariant.fed (none_left c.loop-self.rest.now (length c.loop-self.rest.now) true refl w.loop-self-test.ensures refl)
    ]
