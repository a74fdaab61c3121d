use Rattle.type_data.proofs.Common.{given, map}
use Rattle.type_data.proofs.OfKinds.HostIdentity.Lengths.{fails_in_order, states_in_order}
use Rattle.type_data.proofs.ReadFields.{data_fault_passed}
use Rattle.type_data.proofs.data.read_host_identity.Goals as goal

pub returns-in_err-read_fields-clause-fault : goal.returns-in_err-read_fields-clause-fault
returns-in_err-read_fields-clause-fault c =
    data_fault_passed c.from_residual.result c.in_err-read_fields.field-0.0 _ _ c.from_residual.ensures.1
    (λ name fault. fails_in_order c.args.origin.now (map given c.args.items.now) name fault)
    (rw c.hip_fields.ensures at c.in_err-read_fields.ensures.fault)

pub returns-clause-states : goal.returns-clause-states
returns-clause-states c = states_in_order c.args.origin.now (map given c.args.items.now) c.read_fields.new.octets.items c.lengths_first.new.octets.items (rw c.hip_fields.ensures at c.in_ok-read_fields.ensures.states) c.lengths_first.ensures
