use Rattle.type_data.proofs.Common.{early_types, refl}
use Rattle.type_data.proofs.table.early_types.Goals as goal

pub returns : goal.returns
unfolding early_types
returns c = refl
