use Rattle.zone_rdata.proofs.Common.{arith, rules, on_ok_weaker}
use Rattle.zone_rdata.proofs.Texts.StopTexts.{with_argument, with_owner, without_argument}
use Rattle.zone_rdata.proofs.stop_text.push_fault.Goals as goal

pub returns-in-ErrorCode-clause-text : goal.returns-in-ErrorCode-clause-text
returns-in-ErrorCode-clause-text g c = on_ok_weaker c.push_number-in-ErrorCode.result (λ took. search (rules, with_argument g.S.Sink.takes g.met.S.Sink.joins)) c.push_number-in-ErrorCode.ensures.text

pub returns-in_ok-push-in-OutOfZone-clause-text : goal.returns-in_ok-push-in-OutOfZone-clause-text
returns-in_ok-push-in-OutOfZone-clause-text g c = on_ok_weaker c.push_text.result (λ took. search (rules, with_owner g.S.Sink.takes g.met.S.Sink.joins)) c.push_text.ensures.ok

pub returns-in_default : goal.returns-in_default
returns-in_default g c = record {
  text = search (rules, without_argument g.S.Sink.takes g.met.S.Sink.joins);
  short = grind (arith, c.in_default);
}
