use Rattle.zone_files.proofs.Expansions.Own.{own_expansion}
use Rattle.zone_files.proofs.laws.expansion.a_file_without_directives_to_expand_stays.Goals as goal

pub returns : goal.returns
returns c = own_expansion
