use Rattle.type_data.proofs.Common.{subst}
use Rattle.type_data.proofs.OfParameters.EachPrinted.{all_printed, no_parameters}
use Rattle.type_data.proofs.Printed.PassedNone.{none_passed}
use Rattle.type_data.specs.Parameters.Machine.Printed.{AppendsParameters, all_sent}
use Rattle.type_data.proofs.parameters.printing.print_parameters.Goals as goal

pub returns-in_err-parameters-clause-none : goal.returns-in_err-parameters-clause-none
returns-in_err-parameters-clause-none c = none_passed c.from_residual.result c.in_err-parameters.field-0.0 _ _ c.from_residual.ensures.1 (no_parameters c.args.octets.now c.are_octets.ensures.each) c.in_err-parameters.ensures.none

pub returns-clause-printed : goal.returns-clause-printed
returns-clause-printed c = all_printed (all_sent c.in_ok-parameters.parameters.items) c.args.octets.now c.args.out.now.items c.print_each.new.out.items c.in_ok-parameters.ensures.found (subst (λ t. AppendsParameters (all_sent t) c.args.out.now.items c.print_each.new.out.items) c.as_slice.ensures.value c.in_ok-print_each.ensures)
