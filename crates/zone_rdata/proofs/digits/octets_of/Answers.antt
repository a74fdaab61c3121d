use Rattle.hex.specs.Hex.{encode_upper, upper_digits}
use Rattle.zone_rdata.proofs.Common.{ap, arith, inl, inr, sym, encode_lower, refl, take_all, bytes_eq-Decides, ◌∙◌}
use Rattle.zone_rdata.proofs.digits.octets_of.Goals as goal
use Rattle.zone_rdata.proofs.digits.octets_of.Goals.{then-eq, else-eq}

pub returns-then-eq-2 : goal.returns-then-eq-2
returns-then-eq-2 c =
    let whole = take_all 32 c.values_of_pairs-octets.result (omega (arith, c.values_of_pairs-octets.ensures)) in (
      c.are_octets.ensures.at,
      elim c.if-eq.branch [
        | then-eq w ↦
            let same = (bytes_eq-Decides c.digits_of.result c.args.digits.now).0 (sym c.eq.ensures ∙ w.if-eq.true) in
            inl (sym same ∙ c.digits_of.ensures ∙ ap encode_lower whole)
        | else-eq w ↦
            let same = (bytes_eq-Decides w.written_by.result c.args.digits.now).0 (sym w.eq-else-eq.ensures ∙ sym w.value-is ∙ c.if-eq-2.true) in
            inr (sym same ∙ w.written_by.ensures upper_digits refl refl ∙ ap encode_upper whole)
      ],
    )
