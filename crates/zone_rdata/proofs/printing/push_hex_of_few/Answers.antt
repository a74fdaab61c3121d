use Rattle.zone_rdata.proofs.Common.{OnOk, ap, encode_lower, length, subst, take, take_all, ◌*◌, ◌∙◌}
use Rattle.zone_rdata.proofs.Texts.FieldTexts.{digits_before}
use Rattle.zone_rdata.proofs.printing.push_hex_of_few.Goals as goal

pub returns-then-octets-eq-LANES-clause-ok : goal.returns-then-octets-eq-LANES-clause-ok
returns-then-octets-eq-LANES-clause-ok g c =
    subst (λ text. OnOk c.push.result (g.S.Sink.takes c.args.out.now text c.push.new.self)) (c.digits_of.ensures ∙ ap encode_lower (take_all 32 c.args.octets.now c.requires)) c.push.ensures.ok

pub returns-clause-ok : goal.returns-clause-ok
returns-clause-ok g c =
    subst (λ text. OnOk c.push-2.result (g.S.Sink.takes c.args.out.now text c.push-2.new.self)) (ap (take (2 * length c.args.octets.now)) c.digits_of-2.ensures ∙ digits_before 32 c.args.octets.now c.copy_from_slice.new.self _ c.copy_from_slice.ensures.after c.requires) c.push-2.ensures.ok
