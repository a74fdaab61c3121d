use Rattle.zone_name.proofs.Texts.Sinks.{stops_last}
use Rattle.zone_name.proofs.lent.push_label.Goals as goal

pub returns-clause-err : goal.returns-clause-err
returns-clause-err g c = stops_last c.push.result _ g.met.S.Sink.joins _ _ _ _ _ c.in_ok-push_octets.ensures.ok c.push.ensures.err
