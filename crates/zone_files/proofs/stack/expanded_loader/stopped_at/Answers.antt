use Rattle.zone_files.specs.ExpandedLoader.{accepted}
use Rattle.zone_files.proofs.stack.expanded_loader.stopped_at.Goals as goal

pub returns-in-Ok : goal.returns-in-Ok
returns-in-Ok c = λ origin text loads. accepted _ (c.in-Ok.ensures.zone origin text loads)
