use Rattle.type_data.proofs.DataLaws.{data_or_fault}
use Rattle.type_data.proofs.laws.data.faulty_items_state_none.Goals as goal

pub returns : goal.returns
returns c = data_or_fault
