use Rattle.zone_rdata.proofs.Common.{arith, Took-more, stops_after}
use Rattle.zone_rdata.proofs.Texts.FieldTexts.{quoted_more}
use Rattle.zone_rdata.proofs.field.strings.push_strings_text.Goals as goal

pub returns-in_err-push-clause-err : goal.returns-in_err-push-clause-err
returns-in_err-push-clause-err g c = stops_after _ _ g.met.S.Sink.joins _ _ _ _ c.loop-rest.invariant.taken (_, c.in_err-push.ensures.err)

pub returns-in_err-push_string_text-2-clause-err : goal.returns-in_err-push_string_text-2-clause-err
returns-in_err-push_string_text-2-clause-err g c =
    stops_after _ _ g.met.S.Sink.joins _ _ _ _ (g.met.S.Sink.joins _ _ _ _ _ c.loop-rest.invariant.taken c.in_ok-push.ensures.ok) c.in_err-push_string_text-2.ensures.err

pub loop-rest-preserved : goal.loop-rest-preserved
loop-rest-preserved g c =
    Took-more _ g.met.S.Sink.joins _ _ _ _ _ _ c.loop-rest.invariant (g.met.S.Sink.joins _ _ _ _ _ c.in_ok-push.ensures.ok c.in_ok-push_string_text-2.ensures.ok)
    (quoted_more _ _ _ _ _ (grind (arith, c.loop-rest-test.ensures, c.is_empty.ensures)) c.loop-rest.invariant.known c.split_string-in-loop-rest.ensures.string c.split_string-in-loop-rest.ensures.rest)
