use Rattle.type_data.proofs.Common.{AllZip, NamesType, map, raw_item, take}
use Rattle.type_data.proofs.kinds.types.numbers_of_types.Given as goal

abbrev pub invariant-loop-item : goal.invariant-loop-item
invariant-loop-item l = AllZip NamesType (map raw_item (take l.item-index l.items)) l.numbers.items
