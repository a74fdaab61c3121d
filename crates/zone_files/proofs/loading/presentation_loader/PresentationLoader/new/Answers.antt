use Rattle.std.proofs.Common.{refl}
use Rattle.zone_files.proofs.Presenting.Loads.{begins}
use Rattle.zone_files.proofs.loading.presentation_loader.PresentationLoader.new.Goals as goal

pub returns-clause-stands : goal.returns-clause-stands
returns-clause-stands c =
    begins _ _ _ c.new-rewriter.ensures.stands c.folded-name.ensures c.new-loader.ensures.stands refl refl
