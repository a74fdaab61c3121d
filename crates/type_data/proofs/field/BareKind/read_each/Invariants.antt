use Rattle.type_data.proofs.Common.{FailsBare, StatesBare, drop, map, raw_item}
use Rattle.type_data.proofs.EachItems.{HaveStated}
use Rattle.type_data.proofs.field.BareKind.read_each.Given as goal

abbrev pub invariant-loop-item : goal.invariant-loop-item
invariant-loop-item l = HaveStated (StatesBare l.fn.origin l.fn.self) (FailsBare l.fn.origin l.fn.self) (map raw_item l.fn.items) (map raw_item (drop l.item-index l.items)) l.fn.out.items l.out.items
