use Rattle.zone_rdata.proofs.Common.{◌++◌, on_err_weaker, on_ok_weaker, takes_both}
use Rattle.zone_rdata.proofs.Texts.FieldTexts.{generic_whole}
use Rattle.zone_rdata.proofs.printing.push_generic.Goals as goal

pub returns-clause-err : goal.returns-clause-err
returns-clause-err g c = on_err_weaker c.push_hex.result (λ some. (_ ++ some.0, g.met.S.Sink.joins _ _ _ _ _ c.in_ok-push_generic_head.ensures.ok some.1)) c.push_hex.ensures.err

pub returns-clause-ok : goal.returns-clause-ok
returns-clause-ok g c = on_ok_weaker c.push_hex.result (λ more. takes_both _ g.met.S.Sink.joins _ _ _ _ _ _ c.in_ok-push_generic_head.ensures.ok more (generic_whole c.args.octets.now)) c.push_hex.ensures.ok
