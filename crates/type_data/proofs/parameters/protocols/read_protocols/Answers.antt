use Rattle.type_data.proofs.OfParameters.Escapes.{path_wrong, path_nothing}
use Rattle.type_data.proofs.OfParameters.Listed.{protocols_appended, protocols_stop}
use Rattle.type_data.proofs.Common.{ListsProtocols, fault_passed}
use Rattle.type_data.proofs.parameters.protocols.read_protocols.Goals as goal

pub returns-in_err-push_unescaped-clause-fault : goal.returns-in_err-push_unescaped-clause-fault
returns-in_err-push_unescaped-clause-fault c = fault_passed c.from_residual.result c.in_err-push_unescaped.field-0.0 _ _ c.from_residual.ensures.1 (λ fault is. path_wrong ListsProtocols c.args.text.now fault is) c.in_err-push_unescaped.ensures.fault

pub returns-in_err-read_items-clause-fault : goal.returns-in_err-read_items-clause-fault
returns-in_err-read_items-clause-fault c =
    let spelt = c.in_ok-push_unescaped.ensures.states in
    fault_passed c.from_residual-in_err-read_items.result c.in_err-read_items.field-0.0 _ _ c.from_residual-in_err-read_items.ensures.1 (λ fault none. path_nothing ListsProtocols c.args.text.now spelt.octets fault spelt.stated none.0 (protocols_stop c.args.text.now spelt.octets c.as_slice.result.now spelt.stated (cc (c.as_slice.ensures.value, spelt.written, c.new-spelt.ensures.items)) none.1)) c.in_err-read_items.ensures.fault

pub returns-clause-stated : goal.returns-clause-stated
returns-clause-stated c =
    let spelt = c.in_ok-push_unescaped.ensures.states in
    protocols_appended c.args.text.now spelt.octets c.as_slice.result.now c.args.out.now.items c.read_items.new.out.items spelt.stated (cc (c.as_slice.ensures.value, spelt.written, c.new-spelt.ensures.items)) c.in_ok-read_items.ensures.stated
