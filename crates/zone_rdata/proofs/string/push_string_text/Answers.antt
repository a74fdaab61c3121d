use Rattle.zone_rdata.proofs.Common.{refl, on_ok_weaker, stops_after, stops_last, takes_both}
use Rattle.zone_rdata.proofs.string.push_string_text.Goals as goal

pub returns-in_err-push_units-clause-err : goal.returns-in_err-push_units-clause-err
returns-in_err-push_units-clause-err g c =
    stops_after _ _ g.met.S.Sink.joins _ _ _ _ c.in_ok-push.ensures.ok c.in_err-push_units.ensures.err

pub returns-clause-ok : goal.returns-clause-ok
returns-clause-ok g c =
    on_ok_weaker c.push-2.result (λ more. takes_both _ g.met.S.Sink.joins _ _ _ _ _ _ c.in_ok-push.ensures.ok (g.met.S.Sink.joins _ _ _ _ _ c.in_ok-push_units.ensures.ok more) refl) c.push-2.ensures.ok

pub returns-clause-err : goal.returns-clause-err
returns-clause-err g c =
    stops_last _ _ g.met.S.Sink.joins _ _ _ _ _ (g.met.S.Sink.joins _ _ _ _ _ c.in_ok-push.ensures.ok c.in_ok-push_units.ensures.ok) c.push-2.ensures.err
