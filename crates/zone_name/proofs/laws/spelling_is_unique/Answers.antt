use Rattle.zone_name.proofs.Common.{Folded}
use Rattle.zone_name.proofs.Spelling.Answered.{once_by}
use Rattle.zone_name.proofs.laws.spelling_is_unique.Goals as goal

pub returns : goal.returns
returns c = once_by Folded
