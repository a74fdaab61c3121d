use Rattle.zone_engine.proofs.Common.{refl}
use Rattle.zone_engine.proofs.FileLoads.{begins}
use Rattle.zone_engine.proofs.file_loader.FileLoader.new.Goals as goal

pub returns-clause-stands : goal.returns-clause-stands
returns-clause-stands c =
    begins (λ origin placed ending. (c.of_nothing_nothing_is_decided.ensures origin placed ending).0) _ _ c.known.ensures.name c.new-source.ensures.stands c.new-source.ensures.going c.new-taken.ensures.lists c.new-taken.ensures.refuses refl refl
