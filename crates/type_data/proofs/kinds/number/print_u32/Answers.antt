use Rattle.std.specs.Prelude.{decimal}
use Rattle.type_data.proofs.Common.{IsDecimal, refl, w32, ◌≡◌}
use Rattle.type_data.proofs.Printed.Fronts.{number_printed}
use Rattle.type_data.proofs.kinds.number.print_u32.Goals as goal

pub returns-clause-printed : goal.returns-clause-printed
returns-clause-printed c = number_printed w32 (λ text n. text ≡ decimal n) IsDecimal c.in_ok-number.number _ _ _ _ _ (λ n. refl) c.in_ok-number.ensures.few c.in_ok-number.ensures.whole refl c.in_ok-print_decimal.ensures.ok
