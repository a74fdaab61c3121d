use Rattle.zone_engine.proofs.Headline.{bounded_walk, back_only, equal_if_one, refused_if_none, to_itself}
use Rattle.zone_engine.proofs.laws.headline.Goals as goal

pub returns-clause-same : goal.returns-clause-same
returns-clause-same c = equal_if_one c.one_zone.ensures c.equal_texts_are_equal_zones.ensures

pub returns-clause-back : goal.returns-clause-back
returns-clause-back c = back_only c.one_zone.ensures c.canonical_text_reads_back.ensures

pub returns-clause-again : goal.returns-clause-again
returns-clause-again c = to_itself c.one_zone.ensures c.canonical_text_reads_back.ensures

pub returns-clause-refused : goal.returns-clause-refused
returns-clause-refused c = refused_if_none c.no_zone_of_a_refused_input.ensures c.refusal_or_zone.ensures

pub returns-clause-bounded : goal.returns-clause-bounded
returns-clause-bounded c =
    bounded_walk c.one_walk_from_an_offset.ensures.some c.a_walk_is_bounded.ensures.places c.a_walk_is_bounded.ensures.inside c.a_name_is_walked.ensures.steps
