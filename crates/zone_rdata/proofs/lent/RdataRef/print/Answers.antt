use Rattle.zone_rdata.proofs.Common.{OnOk, Some, None, ap, fields_of, option_map, subst, sym, ◌∙◌}
use Rattle.zone_rdata.proofs.Texts.TextItems.{printed_as}
use Rattle.zone_rdata.proofs.lent.RdataRef.print.Goals as goal

pub returns-in-Some-clause-ok : goal.returns-in-Some-clause-ok
returns-in-Some-clause-ok g c =
    subst (λ text. OnOk c.push_fields.result (g.S.Sink.takes c.args.out.now text c.push_fields.new.out)) (printed_as (Some (fields_of c.in-Some.layout)) _ _ c.self.view_is c.self.invariant (sym (ap (option_map fields_of) c.in-Some.is) ∙ c.layout_of.ensures.fields)) c.push_fields.ensures.ok

pub returns-in-None-clause-ok : goal.returns-in-None-clause-ok
returns-in-None-clause-ok g c =
    subst (λ text. OnOk c.push_generic.result (g.S.Sink.takes c.args.out.now text c.push_generic.new.out)) (printed_as None _ _ c.self.view_is c.self.invariant (sym (ap (option_map fields_of) c.in-None.is) ∙ c.layout_of.ensures.fields)) c.push_generic.ensures.ok
