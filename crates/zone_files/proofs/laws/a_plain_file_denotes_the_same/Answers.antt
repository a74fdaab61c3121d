use Rattle.zone_files.proofs.Forms.{plain_form}
use Rattle.zone_files.proofs.laws.a_plain_file_denotes_the_same.Goals as goal

pub returns : goal.returns
returns c = plain_form c.a_file_without_further_words_stays.ensures c.a_file_denotes_what_its_generic_form_denotes.ensures
