-- Locations that are printed aren't the mark of the generic form.
use Rattle.type_data.proofs.Common.{IsDecimal, IsGeneric, List, RawItem, arith, subst, sym, ℕ, ◌/◌, ◌∙◌, ◌≡◌}
use Rattle.std.proofs.Common.{decimal}
use Rattle.zone_rdata.proofs.Items.GenericLaws.{decimal-is}
use Rattle.type_data.specs.Kinds.Location.{PrintsLocation, angle_at}
use Rattle.type_data.proofs.Printed.Marks.{marked, no_digits, text_marked}

pub location_alone : (alone : List RawItem) (octets : List ℕ) → PrintsLocation alone octets → IsGeneric alone → ⊥
location_alone alone octets printed generic =
    let near = printed.1.0.latitude in
    let n = angle_at printed.0.latitude in
    let digits : decimal (n / 3600000) ≡ marked = text_marked _ _ generic.0 (sym printed.1.1.0 ∙ generic.1) in
    no_digits (n / 3600000) (subst (λ t. IsDecimal t (n / 3600000)) digits (decimal-is (n / 3600000) (omega (arith, near))))
