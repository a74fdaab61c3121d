use Rattle.type_data.proofs.Common.{both_ways, fault_passed, given, map}
use Rattle.type_data.proofs.OfParameters.Reading.{stated_long, stated_missing, stated_states}
use Rattle.type_data.proofs.parameters.read_parameters.Goals as goal

pub returns-then-not-has_required-clause-fault : goal.returns-then-not-has_required-clause-fault
returns-then-not-has_required-clause-fault c = rw c.into.ensures (stated_missing (map given c.args.items.now) c.in_ok-stated.stated c.in_ok-stated.ensures.found (λ each. both_ways c.has_required.result c.if-not-has_required.true (c.has_required.ensures.1 each)))

pub returns-in_err-push_sent-clause-fault : goal.returns-in_err-push_sent-clause-fault
returns-in_err-push_sent-clause-fault c = fault_passed c.from_residual-in_err-push_sent.result c.in_err-push_sent.field-0.0 _ _ c.from_residual-in_err-push_sent.ensures.1 (λ fault long. stated_long (map given c.args.items.now) c.in_ok-stated.stated fault c.in_ok-stated.ensures.found (c.has_required.ensures.0 c.if-not-has_required.false) long) c.in_err-push_sent.ensures.fault

pub returns-clause-states : goal.returns-clause-states
returns-clause-states c = stated_states (map given c.args.items.now) c.in_ok-stated.stated c.args.out.now.items c.push_sent.new.out.items c.in_ok-stated.ensures.found (c.has_required.ensures.0 c.if-not-has_required.false) c.in_ok-push_sent.ensures.sent
