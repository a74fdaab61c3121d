use Rattle.std.proofs.lemmas.Result.{on_ok_weaker}
use Rattle.type_data.proofs.Common.{arith, ◌∙◌}
use Rattle.type_data.proofs.OfParameters.EachPrinted.{parameter_named, parameter_numbered, taken_back}
use Rattle.type_data.proofs.OfParameters.Stops.{reason_of}
use Rattle.type_data.specs.Parameters.Machine.Printed.{NoValue, StopsAs, all_sent, sent_of}
use Rattle.type_data.specs.Parameters.Keys.{key_text}
use Rattle.type_data.proofs.parameters.printing.print_parameter.Goals as goal

pub returns-in-Ok : goal.returns-in-Ok
returns-in-Ok c = parameter_named (all_sent c.args.parameters.now) (sent_of c.args.parameter) c.usual_key-key.result c.args.out.now.items c.extend_from_slice.new.self.items c.print_key.new.out.items c.print_value.new.out.items c.usual_key-key.ensures c.in_ok-extend_from_slice.ensures.items c.in_ok-print_key.ensures c.in-Ok.ensures.printed

pub returns-in_ok-print_key-in-Err-NoData : goal.returns-in_ok-print_key-in-Err-NoData
returns-in_ok-print_key-in-Err-NoData c =
    let stops = reason_of c.in-Err-NoData.field-0 (StopsAs (NoValue (all_sent c.args.parameters.now) c.usual_key-key.result c.args.parameter.value.now) c.print_key.new.out.items c.print_value.new.out.items) (cc c.in-Err-NoData.field-0-is) c.in-Err-NoData.ensures.none in
    let back = taken_back c.len-before.result c.args.out.now.items c.extend_from_slice.new.self.items c.print_key.new.out.items c.print_value.new.out.items stops.added (key_text c.usual_key-key.result) (first_of (omega (arith, c.len-before.ensures, c.args.out.now.ok), grind (arith, c.len-before.ensures, c.args.out.now.ok))) c.in_ok-extend_from_slice.ensures.items c.in_ok-print_key.ensures stops.appended in
    on_ok_weaker c.print_opaque.result (λ a. parameter_numbered (all_sent c.args.parameters.now) (sent_of c.args.parameter) c.usual_key-key.result c.args.out.now.items c.truncate.new.self.items c.extend_from_slice-in-Err-NoData.new.self.items c.print_key-in-Err-NoData.new.out.items c.print_opaque.new.out.items c.usual_key-key.ensures stops.reason (c.truncate.ensures.items ∙ back) c.in_ok-extend_from_slice-in-Err-NoData.ensures.items c.in_ok-print_key-in-Err-NoData.ensures a) c.print_opaque.ensures
