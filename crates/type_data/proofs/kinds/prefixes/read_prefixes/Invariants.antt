use Rattle.type_data.proofs.Common.{drop, map, raw_item}
use Rattle.type_data.proofs.OfKinds.Prefixes.Once.{LeadToPrefixes}
use Rattle.type_data.proofs.kinds.prefixes.read_prefixes.Given as goal

abbrev pub invariant-loop-item : goal.invariant-loop-item
invariant-loop-item l = LeadToPrefixes (map raw_item l.items) (map raw_item (drop l.item-index l.items)) l.fn.out.items l.out.items
