use Rattle.type_data.proofs.Printed.PassedNone.{none_passed}
use Rattle.type_data.proofs.OfKinds.Eui.Printed.{eui_front, no_eui}
use Rattle.type_data.proofs.kinds.eui.print_eui.Goals as goal

pub returns-clause-printed : goal.returns-clause-printed
returns-clause-printed c = eui_front c.args.count c.args.octets.now c.in_ok-address.rest.now _ _ c.in_ok-address.address.now (λ i. (c.type_inv.octets i).fits) c.in_ok-address.ensures.whole c.in_ok-address.ensures.front c.in_ok-print_pairs.ensures

pub returns-in_err-address-clause-none : goal.returns-in_err-address-clause-none
returns-in_err-address-clause-none c = none_passed c.from_residual.result c.in_err-address.field-0.0 _ _ c.from_residual.ensures.1 (λ short. no_eui c.args.count c.args.octets.now short) c.in_err-address.ensures.short
