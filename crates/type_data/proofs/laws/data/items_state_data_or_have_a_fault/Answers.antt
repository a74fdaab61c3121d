use Rattle.type_data.proofs.Decided.Fields.{data_decided}
use Rattle.type_data.proofs.laws.data.items_state_data_or_have_a_fault.Goals as goal

pub returns : goal.returns
returns c = data_decided
