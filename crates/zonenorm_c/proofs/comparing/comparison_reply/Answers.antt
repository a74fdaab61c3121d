-- what comparing the octets that are read answers
use Rattle.std.proofs.Common.{refl, subst}
use Rattle.zone_engine.specs.Compare.{Compares, StopsCompareBytes}
use Rattle.zone_engine.specs.Form.{read_as}
use Rattle.zone_engine.specs.declared.comparison.Verdict.TheVariants.{Same}
use Rattle.zonenorm_c.specs.Compare.{different, same, stopped}
use Rattle.zonenorm_c.proofs.comparing.comparison_reply.Goals as goal

pub returns-in-Ok-Same : goal.returns-in-Ok-Same
returns-in-Ok-Same c =
    let compares = subst (λ verdict. Compares (read_as c.with_origin-form.result c.octets-octets.result.now) (read_as c.with_origin-other_form.result c.octets.result.now) verdict) c.in-Ok-Same.field-0-is c.in-Ok-Same.ensures.compared in
    same ((c.same_is_one_zone.ensures.same _ _ Same (rw (← c.with_origin-form.ensures, ← c.with_origin-other_form.ensures, ← c.octets-octets.ensures, ← c.octets.ensures) compares)).0 refl) (rw (c.without_text.ensures.answer, c.plain.ensures) refl) c.without_text.ensures.text

pub returns-in-Ok-Different : goal.returns-in-Ok-Different
returns-in-Ok-Different c =
    let compares = subst (λ verdict. Compares (read_as c.with_origin-form.result c.octets-octets.result.now) (read_as c.with_origin-other_form.result c.octets.result.now) verdict) c.in-Ok-Different.field-0-is c.in-Ok-Different.ensures.compared in
    different c.in-Ok-Different.line (rw (← c.with_origin-form.ensures, ← c.with_origin-other_form.ensures, ← c.octets-octets.ensures, ← c.octets.ensures) compares) (rw (c.without_text-in-Ok-Different.ensures.answer, c.plain-answer.ensures) refl) (rw c.without_text-in-Ok-Different.ensures.answer refl) c.without_text-in-Ok-Different.ensures.text

pub returns-in-Refused : goal.returns-in-Refused
returns-in-Refused c =
    let stops = subst (λ stop. StopsCompareBytes (read_as c.with_origin-form.result c.octets-octets.result.now) (read_as c.with_origin-other_form.result c.octets.result.now) c.in-Err.which stop) c.in-Refused.is c.in-Err.ensures.stopped in
    stopped c.in-Err.which c.in-Refused.fault c.in-Refused.place (rw (← c.with_origin-form.ensures, ← c.with_origin-other_form.ensures, ← c.octets-octets.ensures, ← c.octets.ensures) stops) c.refusal_reply-reply.ensures c.input_of-reply.ensures
