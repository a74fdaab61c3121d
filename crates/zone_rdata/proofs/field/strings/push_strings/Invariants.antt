use Rattle.zone_rdata.proofs.Common.{drop, map, raw}
use Rattle.zone_rdata.proofs.Items.Values.{HaveSpelt}
use Rattle.zone_rdata.proofs.field.strings.push_strings.Given as goal

abbrev pub invariant-loop-item : goal.invariant-loop-item
invariant-loop-item l = HaveSpelt (map raw l.fn.items) (map raw (drop l.item-index l.items)) l.fn.octets.items l.octets.items
