use Rattle.type_data.proofs.Common.{AppendsStated, field_meaning, refl}
use Rattle.type_data.proofs.GivenItems.{of_items}
use Rattle.type_data.proofs.data.push_field.Goals as goal

pub returns-in-Ok-clause-states : goal.returns-in-Ok-clause-states
returns-in-Ok-clause-states c = of_items c.args.own.now (λ items. AppendsStated ((field_meaning c.args.origin.now c.args.field.now.1).States items) c.args.out.now.items c.read.new.out.items) c.in-Ok.ensures.states

pub returns-in-Err-Fault-clause-fault : goal.returns-in-Err-Fault-clause-fault
returns-in-Err-Fault-clause-fault c = (of_items c.args.own.now (λ items. (field_meaning c.args.origin.now c.args.field.now.1).Fails items c.in-Err-Fault.fault) (rw c.in-Err-Fault.field-0-is at c.in-Err-Fault.ensures.fault), refl)
