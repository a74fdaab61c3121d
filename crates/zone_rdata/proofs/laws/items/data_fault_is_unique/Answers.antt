use Rattle.zone_rdata.proofs.Items.ItemLaws.{for_fault_once}
use Rattle.zone_rdata.proofs.laws.items.data_fault_is_unique.Goals as goal

pub returns : goal.returns
returns c = λ origin class kind items a b x y. for_fault_once c.texts_have_one_verdict.ensures.never_both c.texts_have_one_verdict.ensures.one_fault origin _ items a b x.first y.first
