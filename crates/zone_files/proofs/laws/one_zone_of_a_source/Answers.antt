use Rattle.zone_files.proofs.Headline.{one_fault, one_source}
use Rattle.zone_files.proofs.laws.one_zone_of_a_source.Goals as goal

pub returns-clause-zone : goal.returns-clause-zone
returns-clause-zone c = one_source c.a_file_denotes_what_its_generic_form_denotes.ensures c.a_file_has_one_generic_form.ensures.some c.a_file_has_one_generic_form.ensures.one c.one_zone.ensures

pub returns-clause-fault : goal.returns-clause-fault
returns-clause-fault c = one_fault c.a_file_has_one_generic_form.ensures.one c.one_refusal.ensures
