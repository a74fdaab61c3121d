use Rattle.type_data.proofs.Common.{drop, map, raw_item}
use Rattle.zone_rdata.proofs.Items.Values.{HaveSpelt}
use Rattle.type_data.proofs.kinds.strings.read_strings.Given as goal

abbrev pub invariant-loop-item : goal.invariant-loop-item
invariant-loop-item l = HaveSpelt (map raw_item l.fn.items) (map raw_item (drop l.item-index l.items)) l.fn.out.items l.out.items
