use Rattle.zone_name.proofs.Texts.Lengths.{spells_part}
use Rattle.zone_name.proofs.Texts.Sinks.{Took-more, stops_after}
use Rattle.zone_name.proofs.lent.push_octets.Goals as goal

pub loop-rest-preserved : goal.loop-rest-preserved
loop-rest-preserved g c =
    Took-more _ g.met.S.Sink.joins _ _ _ _ _ _ c.loop-rest.invariant c.in_ok-push_part.ensures.ok
    (spells_part c.loop-rest.invariant.text _ _ _ _ _ c.split_at.ensures.front c.split_at.ensures.back c.loop-rest.invariant.known)

pub returns-in_err-push_part-clause-err : goal.returns-in_err-push_part-clause-err
returns-in_err-push_part-clause-err g c = stops_after _ _ g.met.S.Sink.joins _ _ _ _ c.loop-rest.invariant.taken (_, c.in_err-push_part.ensures.err)
