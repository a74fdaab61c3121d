use Rattle.type_data.proofs.Common.{signed_types, refl}
use Rattle.type_data.proofs.table.signed_types.Goals as goal

pub returns : goal.returns
unfolding signed_types
returns c = refl
