use Rattle.zone_files.proofs.Forms.{denotes_its_form}
use Rattle.zone_files.proofs.laws.a_file_denotes_what_its_generic_form_denotes.Goals as goal

pub returns : goal.returns
returns c = denotes_its_form c.a_rewriting_states_the_files_records.ensures c.rewriting_is_unique.ensures
