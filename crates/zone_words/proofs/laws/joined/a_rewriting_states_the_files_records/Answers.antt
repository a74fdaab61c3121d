use Rattle.zone_words.proofs.JoinedFiles.{file_joined}
use Rattle.zone_words.proofs.laws.joined.a_rewriting_states_the_files_records.Goals as goal

pub returns : goal.returns
returns c cased origin = file_joined cased origin
