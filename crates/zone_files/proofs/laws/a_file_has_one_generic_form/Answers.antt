use Rattle.zone_files.proofs.Forms.{one_form, some_form}
use Rattle.zone_files.proofs.laws.a_file_has_one_generic_form.Goals as goal

pub returns-clause-some : goal.returns-clause-some
returns-clause-some c = some_form c.a_text_has_a_rewriting.ensures

pub returns-clause-one : goal.returns-clause-one
returns-clause-one c = one_form c.rewriting_is_unique.ensures
