use Rattle.zone_files.proofs.FilesHeadline.{none_if_long, none_if_reported, one_of_files, same_files}
use Rattle.zone_files.proofs.laws.files.files_headline.Goals as goal

pub returns-clause-same : goal.returns-clause-same
returns-clause-same c = same_files c.an_expanded_text_is_unique.ensures c.presentation_headline.ensures.same

pub returns-clause-one : goal.returns-clause-one
returns-clause-one c = one_of_files c.an_expanded_text_is_unique.ensures c.one_zone_of_a_source.ensures.zone

pub returns-clause-refused : goal.returns-clause-refused
returns-clause-refused c = none_if_reported c.an_expanded_text_is_unique.ensures c.one_report_of_a_source.ensures.refused c.presentation_headline.ensures.refused

pub returns-clause-long : goal.returns-clause-long
returns-clause-long c = none_if_long c.an_expanded_text_is_unique.ensures
