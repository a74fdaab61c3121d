use Rattle.zone_engine.proofs.InMemory.{stops_in_memory}
use Rattle.zone_engine.proofs.comparison.compare_bytes.Goals as goal

pub returns-clause-stopped : goal.returns-clause-stopped
returns-clause-stopped c = stops_in_memory _ _ _ _ _ _ _ c.compare.ensures.stopped
