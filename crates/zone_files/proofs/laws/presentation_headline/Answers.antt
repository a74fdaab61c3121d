use Rattle.zone_files.proofs.Headline.{back_only, refused_if_none, same_text, shown_back}
use Rattle.zone_files.proofs.laws.presentation_headline.Goals as goal

pub returns-clause-same : goal.returns-clause-same
returns-clause-same c = same_text c.a_file_denotes_what_its_generic_form_denotes.ensures c.a_file_has_one_generic_form.ensures.some c.a_file_has_one_generic_form.ensures.one c.one_zone.ensures c.equal_texts_are_equal_zones.ensures

pub returns-clause-back : goal.returns-clause-back
returns-clause-back c = back_only c.a_file_denotes_what_its_generic_form_denotes.ensures c.a_file_has_one_generic_form.ensures.some c.a_file_has_one_generic_form.ensures.one c.headline.ensures.back

pub returns-clause-shown : goal.returns-clause-shown
returns-clause-shown c = shown_back c.a_file_denotes_what_its_generic_form_denotes.ensures c.a_file_has_one_generic_form.ensures.some c.a_file_has_one_generic_form.ensures.one c.a_canonical_text_comes_back.ensures c.canonical_text_reads_back.ensures

pub returns-clause-refused : goal.returns-clause-refused
returns-clause-refused c = refused_if_none c.a_file_denotes_what_its_generic_form_denotes.ensures c.a_file_has_one_generic_form.ensures.some c.a_file_has_one_generic_form.ensures.one c.no_zone_of_a_refused_input.ensures c.refusal_or_zone.ensures
