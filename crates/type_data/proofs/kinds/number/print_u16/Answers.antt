use Rattle.std.specs.Prelude.{decimal}
use Rattle.type_data.proofs.Common.{IsDecimal, refl, w16, ◌≡◌}
use Rattle.type_data.proofs.Printed.Fronts.{number_printed}
use Rattle.type_data.proofs.kinds.number.print_u16.Goals as goal

pub returns-clause-printed : goal.returns-clause-printed
returns-clause-printed c = number_printed w16 (λ text n. text ≡ decimal n) IsDecimal c.in_ok-number.number _ _ _ _ (decimal c.in_ok-number.number) (λ n. refl) c.in_ok-number.ensures.few c.in_ok-number.ensures.whole refl (cc (c.in_ok-print_decimal.ensures.ok, c.from.ensures))
