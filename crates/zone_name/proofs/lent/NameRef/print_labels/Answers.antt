use Rattle.zone_name.proofs.Texts.Lengths.{prints_more}
use Rattle.zone_name.proofs.Texts.Sinks.{Took-more, stops_after}
use Rattle.zone_name.proofs.lent.NameRef.print_labels.Goals as goal

pub loop-label-preserved : goal.loop-label-preserved
loop-label-preserved g c =
    Took-more _ g.met.S.Sink.joins _ _ _ _ _ _ c.loop-label.invariant c.in_ok-push_label-2.ensures.ok
    (prints_more c.loop-label.invariant.text _ _ _ _ c.in-Some-label.ensures.steps c.loop-label.invariant.known)

pub returns-in_err-push_label-2-clause-err : goal.returns-in_err-push_label-2-clause-err
returns-in_err-push_label-2-clause-err g c = stops_after _ _ g.met.S.Sink.joins _ _ _ _ c.loop-label.invariant.taken c.in_err-push_label-2.ensures.err
