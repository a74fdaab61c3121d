use Rattle.zone_engine.proofs.Common.{lit≤, Some, DifferingTtl, UnclosedQuote, Line, reading}
use Rattle.zone_engine.proofs.examples.a_file_with_a_differing_ttl.Goals as goal

pub returns : goal.returns
returns c = reading _ (Some (UnclosedQuote, Line 4)) DifferingTtl (Line 3) (lit≤ tt) c.records_before_an_open_quote.ensures c.a_differing_ttl_before_an_open_quote.ensures
