use Rattle.zone_rdata.proofs.Common.{[], ap, arith, bytes_eq, refl, sym, true, ◌∷◌, ◌≡◌}
use Rattle.zone_rdata.proofs.Items.Values.{generic_first, two_octets}
use Rattle.zone_rdata.proofs.reading.is_generic.Goals as goal

pub returns-in-Some-Bare-eq92 : goal.returns-in-Some-Bare-eq92
returns-in-Some-Bare-eq92 c =
    let found = c.in-Some-Bare-eq92.ensures.item in
    let same : c.in-Some-Bare-eq92.field-0-0.now ≡ 92 ∷ 35 ∷ [] = two_octets c.in-Some-Bare-eq92.field-0-0.now 92 35 (omega arith) (grind arith) (grind arith) in
    generic_first c.args.items.now c.in-Some-Bare-eq92.field-0.now c.in-Some-Bare-eq92.field-0-0 (92 ∷ 35 ∷ []) true found.3.0 (found.3.1 _) c.in-Some-Bare-eq92.field-0-is refl (ap (λ t. bytes_eq t (92 ∷ 35 ∷ [])) (sym same))
