use Rattle.type_data.proofs.FaultsOnce.{data_fault_once}
use Rattle.type_data.proofs.laws.data.data_has_one_fault.Goals as goal

pub returns : goal.returns
returns c origin fields ordered items name other fault as_well p q =
    let same = data_fault_once origin fields ordered items name other fault as_well p q in
    (same.field, same.fault_same)
