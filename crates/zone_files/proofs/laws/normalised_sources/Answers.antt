use Rattle.zone_files.proofs.Presenting.Normalised.{same_if_one, text_written, texts_if_one}
use Rattle.zone_files.proofs.laws.normalised_sources.Goals as goal

pub returns-clause-same : goal.returns-clause-same
returns-clause-same c = texts_if_one c.presentation_headline.ensures.same

pub returns-clause-written : goal.returns-clause-written
returns-clause-written c = text_written

pub returns-clause-compared : goal.returns-clause-compared
returns-clause-compared c = same_if_one c.presentation_headline.ensures.same
