use Rattle.std.specs.Prelude.{decimal}
use Rattle.type_data.proofs.Common.{IsDecimal, refl, w8, ◌≡◌}
use Rattle.type_data.proofs.Printed.Fronts.{number_printed, one_octet}
use Rattle.type_data.proofs.kinds.number.print_u8.Goals as goal

pub returns-clause-printed : goal.returns-clause-printed
returns-clause-printed c = number_printed w8 (λ text n. text ≡ decimal n) IsDecimal c.in_ok-number.number _ _ _ _ (decimal c.in_ok-number.number) (λ n. refl) c.in_ok-number.ensures.few (one_octet c.in_ok-number.number _ _ c.in_ok-number.ensures.few c.in_ok-number.ensures.whole) refl (cc (c.in_ok-print_decimal.ensures.ok, c.from.ensures))
