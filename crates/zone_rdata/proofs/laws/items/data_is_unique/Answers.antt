use Rattle.zone_rdata.proofs.Items.ItemLaws.{data_once}
use Rattle.zone_rdata.proofs.laws.items.data_is_unique.Goals as goal

pub returns : goal.returns
returns c = data_once c.spelling_is_unique.ensures
