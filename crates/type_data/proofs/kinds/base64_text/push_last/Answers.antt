use Rattle.base64.specs.GeneralPurpose.{decode_of}
use Rattle.base64.specs.Engines.{standard}
use Rattle.type_data.proofs.Common.{ap, arith, refl, sym, ◌∙◌}
use Rattle.type_data.proofs.OfKinds.Base64.Texts.{decoded_appended, decodes_again}
use Rattle.type_data.proofs.kinds.base64_text.push_last.Goals as goal

pub returns-in-Ok-clause-states : goal.returns-in-Ok-clause-states
returns-in-Ok-clause-states c =
    decoded_appended c.args.text.now c.args.out.now.items _ _ (λ i. omega (arith, c.type_inv.text i)) c.in-Ok.ensures.bytes c.requires c.in-Ok.ensures.ok c.in-Ok.ensures.front

pub returns-in-Err-DecodeError-clause-fault : goal.returns-in-Err-DecodeError-clause-fault
returns-in-Err-DecodeError-clause-fault c =
    (refl, (λ octets is. let good = ap (decode_of standard) is.encoded ∙ decodes_again octets is.each in cc (sym (rw c.in-Err-DecodeError.field-0-is at c.in-Err-DecodeError.ensures.err) ∙ good)))
