use Rattle.zone_engine.proofs.Common.{codes, subst, a_x, x, example_zone, file, InputDenotes, NormalisesTo}
use Rattle.zone_engine.proofs.examples.a_canonical_text_read_back.Goals as goal

pub returns-clause-same_origin : goal.returns-clause-same_origin
returns-clause-same_origin c =
    subst (λ text. InputDenotes (file x text) (example_zone 5)) c.a_file_and_its_zone.ensures.text
    (c.headline.ensures.back (file x (codes "@ SOA n h 1 2 3 4 5\n NS n\n")) (example_zone 5) x c.a_file_and_its_zone.ensures.zone).denotes

pub returns-clause-other_origin : goal.returns-clause-other_origin
returns-clause-other_origin c =
    subst (λ text. InputDenotes (file a_x text) (example_zone 5)) c.a_file_and_its_zone.ensures.text
    (c.headline.ensures.back (file x (codes "@ SOA n h 1 2 3 4 5\n NS n\n")) (example_zone 5) a_x c.a_file_and_its_zone.ensures.zone).denotes

pub returns-clause-again : goal.returns-clause-again
returns-clause-again c =
    subst (λ text. NormalisesTo (file a_x text) text) c.a_file_and_its_zone.ensures.text
    (c.headline.ensures.again (file x (codes "@ SOA n h 1 2 3 4 5\n NS n\n")) (example_zone 5) a_x c.a_file_and_its_zone.ensures.zone).normalises
