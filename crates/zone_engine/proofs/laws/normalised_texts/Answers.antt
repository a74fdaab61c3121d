use Rattle.zone_engine.proofs.Headline.{texts_equal_if_one, text_to_itself}
use Rattle.zone_engine.proofs.laws.normalised_texts.Goals as goal

pub returns-clause-same : goal.returns-clause-same
returns-clause-same c = texts_equal_if_one c.headline.ensures.same

pub returns-clause-again : goal.returns-clause-again
returns-clause-again c = text_to_itself c.headline.ensures.again
