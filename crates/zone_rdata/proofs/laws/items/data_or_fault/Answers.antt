use Rattle.zone_rdata.proofs.Items.ItemLaws.{data_or_fault}
use Rattle.zone_rdata.proofs.laws.items.data_or_fault.Goals as goal

pub returns : goal.returns
returns c = data_or_fault c.texts_have_one_verdict.ensures.one_of
