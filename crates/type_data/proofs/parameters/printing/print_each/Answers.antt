use Rattle.type_data.proofs.Common.{arith}
use Rattle.type_data.proofs.OfParameters.EachPrinted.{each_printed, none_printed, place_printed}
use Rattle.type_data.specs.Parameters.Machine.Printed.{all_sent}
use Rattle.type_data.proofs.parameters.printing.print_each.Goals as goal

pub loop-parameter-init : goal.loop-parameter-init
loop-parameter-init c = none_printed (all_sent c.args.parameters.now) c.args.out.now.items

pub loop-parameter-preserved : goal.loop-parameter-preserved
loop-parameter-preserved c = place_printed c.args.parameters.now c.loop-parameter.parameter-index _ c.args.out.now.items c.loop-parameter.out.items c.print_parameter.new.out.items c.loop-parameter-test.true c.loop-parameter.invariant c.in_ok-print_parameter.ensures

pub returns : goal.returns
returns c = each_printed c.args.parameters.now c.loop-parameter.parameter-index c.args.out.now.items c.loop-parameter.out.items (grind (arith, c.loop-parameter-test.false)) c.loop-parameter.invariant
