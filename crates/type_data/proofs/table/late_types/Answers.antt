use Rattle.type_data.proofs.Common.{late_types, refl}
use Rattle.type_data.proofs.table.late_types.Goals as goal

pub returns : goal.returns
unfolding late_types
returns c = refl
