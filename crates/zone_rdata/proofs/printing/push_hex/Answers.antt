use Rattle.zone_rdata.proofs.Common.{stops_after, Took-more}
use Rattle.zone_rdata.proofs.Texts.FieldTexts.{digits_more}
use Rattle.zone_rdata.proofs.printing.push_hex.Goals as goal

pub returns-in_err-push_hex_of_few-clause-err : goal.returns-in_err-push_hex_of_few-clause-err
returns-in_err-push_hex_of_few-clause-err g c =
    stops_after _ _ g.met.S.Sink.joins _ _ _ _ c.loop-rest.invariant.taken (_, c.in_err-push_hex_of_few.ensures.err)

pub loop-rest-preserved : goal.loop-rest-preserved
loop-rest-preserved g c =
    Took-more _ g.met.S.Sink.joins _ _ _ _ _ _ c.loop-rest.invariant c.in_ok-push_hex_of_few.ensures.ok
    (digits_more _ _ _ _ _ _ c.split_at.ensures.front c.split_at.ensures.back c.loop-rest.invariant.known)
