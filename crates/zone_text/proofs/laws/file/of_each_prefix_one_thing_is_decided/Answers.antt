use Rattle.zone_text.proofs.Files.DecidedOnce.{decided_once}
use Rattle.zone_text.proofs.laws.file.of_each_prefix_one_thing_is_decided.Goals as goal

pub returns : goal.returns
returns c = decided_once c.lower_laws.ensures
