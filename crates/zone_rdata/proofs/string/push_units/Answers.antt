use Rattle.zone_rdata.proofs.Common.{arith, stops_after, takes_both, Took-more, prefix_len-le-length, is_unescaped}
use Rattle.zone_rdata.proofs.Strings.UnescapedRuns.{shown_all, shown_more}
use Rattle.zone_rdata.proofs.string.push_units.Goals as goal

pub split_at-requires : goal.split_at-requires
split_at-requires g c =
    omega (arith, c.unescaped_len.ensures, prefix_len-le-length is_unescaped c.loop-octet.rest.now)

pub returns-in_default-clause-ok : goal.returns-in_default-clause-ok
returns-in_default-clause-ok g c =
    takes_both _ g.met.S.Sink.joins _ _ _ _ _ _ c.loop-octet.invariant.taken c.in_ok-push.ensures.ok
    (shown_all _ _ _ _ _ _ c.unescaped_len.ensures c.split_at.ensures.front c.split_at.ensures.back c.in_default.ensures.cases c.loop-octet.invariant.known)

pub returns-in_err-push_unit-clause-err : goal.returns-in_err-push_unit-clause-err
returns-in_err-push_unit-clause-err g c =
    stops_after _ _ g.met.S.Sink.joins _ _ _ _ (g.met.S.Sink.joins _ _ _ _ _ c.loop-octet.invariant.taken c.in_ok-push.ensures.ok) (_, c.in_err-push_unit.ensures.err)

pub loop-octet-preserved : goal.loop-octet-preserved
loop-octet-preserved g c =
    Took-more _ g.met.S.Sink.joins _ _ _ _ _ _ c.loop-octet.invariant (g.met.S.Sink.joins _ _ _ _ _ c.in_ok-push.ensures.ok c.in_ok-push_unit.ensures.ok)
    (shown_more _ _ _ _ _ _ _ _ c.unescaped_len.ensures c.split_at.ensures.front c.split_at.ensures.back c.in-Some.ensures.cases.0 c.loop-octet.invariant.known)
