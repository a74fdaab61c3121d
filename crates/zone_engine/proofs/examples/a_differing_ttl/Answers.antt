use Rattle.zone_engine.proofs.Common.{arith}
use Rattle.zone_engine.proofs.Refusals.Deciding.{other_ttl}
use Rattle.zone_engine.proofs.examples.a_differing_ttl.Goals as goal

pub returns : goal.returns
returns c = other_ttl 300 600 2 (λ same. omega (arith, same))
