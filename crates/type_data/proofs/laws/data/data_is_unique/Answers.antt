use Rattle.type_data.proofs.DataLaws.{data_once}
use Rattle.type_data.proofs.laws.data.data_is_unique.Goals as goal

pub returns : goal.returns
returns c = data_once
