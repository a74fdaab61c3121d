use Rattle.type_data.proofs.Common.{on_ok_weaker}
use Rattle.type_data.proofs.Printed.PassedNone.{none_passed}
use Rattle.type_data.proofs.OfKinds.HostIdentity.PrintedData.{hip_cut, hip_none, hip_printed}
use Rattle.type_data.proofs.PrintedKinds.{none_weaker}
use Rattle.type_data.proofs.printed_data.print_hip.Goals as goal

pub returns-in_err-push_lengths_within-clause-none :
    goal.returns-in_err-push_lengths_within-clause-none
returns-in_err-push_lengths_within-clause-none c = none_passed c.from_residual.result c.in_err-push_lengths_within.field-0.0 _ _ c.from_residual.ensures.1 (hip_cut c.args.octets.now) c.in_err-push_lengths_within.ensures.none

pub returns-clause-printed : goal.returns-clause-printed
returns-clause-printed c =
    on_ok_weaker c.print_fields.result
    (hip_printed _ c.args.octets.now c.push_lengths_within.new.out.items c.new-ordered.result.items c.args.out.now.items c.print_fields.new.out.items c.new-ordered.ensures.items c.hip_fields.ensures c.in_ok-push_lengths_within.ensures.put c.requires) (rw c.deref.ensures.value at c.print_fields.ensures.printed)

pub returns-clause-none : goal.returns-clause-none
returns-clause-none c =
    none_weaker c.print_fields.result _ _ (hip_none _ c.args.octets.now c.push_lengths_within.new.out.items c.new-ordered.result.items c.new-ordered.ensures.items c.hip_fields.ensures c.in_ok-push_lengths_within.ensures.put) (rw c.deref.ensures.value at c.print_fields.ensures.none)
