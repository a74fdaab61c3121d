use Rattle.zone_files.proofs.Expansions.Once.{one_expanded}
use Rattle.zone_files.proofs.laws.expansion.an_expanded_text_is_unique.Goals as goal

pub returns : goal.returns
returns c = one_expanded
