use Rattle.zone_rdata.proofs.Items.ItemLaws.{for_never}
use Rattle.zone_rdata.proofs.laws.items.faulty_items_state_none.Goals as goal

pub returns : goal.returns
returns c = λ origin class kind items octets fault x y. for_never c.spelling_is_unique.ensures c.texts_have_one_verdict.ensures.never_both origin _ items octets fault x.stated y.first
