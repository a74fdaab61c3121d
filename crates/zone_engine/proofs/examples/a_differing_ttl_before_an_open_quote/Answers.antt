use Rattle.zone_engine.proofs.Common.{arith, DifferingTtl, Line, refused}
use Rattle.zone_engine.proofs.Refusals.Deciding.{other_ttl}
use Rattle.zone_engine.proofs.examples.a_differing_ttl_before_an_open_quote.Goals as goal

pub returns : goal.returns
returns c = refused DifferingTtl (Line 3) (other_ttl 60 61 1 (λ same. omega (arith, same)))
