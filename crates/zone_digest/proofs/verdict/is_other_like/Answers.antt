-- The fields that are read are those that the data has.
use Rattle.std.proofs.Common.{◌∙◌, arith, sym, subst}
use Rattle.zone_rdata.specs.Lent.{record_of}
use Rattle.zone_digest.specs.Verdict.{HasFields}
use Rattle.zone_digest.specs.Machine.Reading.{fields_of}
use Rattle.zone_digest.proofs.FieldsOf.{other_like}
use Rattle.zone_digest.proofs.verdict.is_other_like.Goals as goal

pub returns-in-Some : goal.returns-in-Some
returns-in-Some c =
    other_like c.have_one_pair.result (record_of c.args.rr.now) (record_of c.args.other.now) (fields_of c.args.fields.now) (fields_of c.in-Some.own)
    (λ same. (let is = c.are_same.ensures.1 (c.octets.ensures ∙ same ∙ sym c.octets-2.ensures) in grind (arith, is, c.if-are_same.false)))
    (subst (λ o. HasFields o (fields_of c.in-Some.own)) c.octets-3.ensures c.in-Some.ensures.found) c.have_one_pair.ensures
