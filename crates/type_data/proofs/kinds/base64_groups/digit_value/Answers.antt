use Rattle.type_data.proofs.Common.{refl}
use Rattle.type_data.proofs.kinds.base64_groups.digit_value.Goals as goal

pub returns : goal.returns
returns c = refl
