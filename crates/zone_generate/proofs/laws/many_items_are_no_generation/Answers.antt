use Rattle.zone_generate.proofs.EntryItems.{many_items}
use Rattle.zone_generate.proofs.laws.many_items_are_no_generation.Goals as goal

pub returns : goal.returns
returns c = many_items
