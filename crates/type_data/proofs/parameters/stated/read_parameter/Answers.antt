use Rattle.type_data.proofs.Common.{arith, drop, fault_passed, given, length-map, map}
use Rattle.type_data.proofs.OfParameters.Reading.{stated_fails, stated_keyless, stated_more}
use Rattle.type_data.specs.Parameters.Machine.Parts.{text_of}
use Rattle.type_data.proofs.parameters.stated.read_parameter.Goals as goal

pub returns-in_default-clause-fault : goal.returns-in_default-clause-fault
returns-in_default-clause-fault c = rw c.into.ensures (λ all has. stated_keyless all (map given c.args.items.now) c.args.stated.now (omega (arith, c.requires, length-map c.args.items.now given)) c.in_default.ensures.none has)

pub returns-in_err-add_parameter-clause-fault : goal.returns-in_err-add_parameter-clause-fault
returns-in_err-add_parameter-clause-fault c = fault_passed c.from_residual.result c.in_err-add_parameter.field-0.0 _ _ c.from_residual.ensures.1 (λ fault fails all has. stated_fails all (map given c.args.items.now) (map given (drop c.in-Some.count c.args.items.now)) (text_of c.in-Some.text) c.args.stated.now fault c.in-Some.ensures.found (omega (arith, c.requires, length-map c.args.items.now given)) fails has) c.in_err-add_parameter.ensures.fault

pub returns-clause-reads : goal.returns-clause-reads
returns-clause-reads c = λ all has. stated_more all (map given c.args.items.now) (map given (drop c.in-Some.count c.args.items.now)) (text_of c.in-Some.text) c.args.stated.now c.add_parameter.new.stated c.in-Some.ensures.found c.in_ok-add_parameter.ensures.adds has
