use Rattle.type_data.proofs.Common.{drop, map, raw_item}
use Rattle.type_data.proofs.OfKinds.Joined.Items.{HaveJoined}
use Rattle.type_data.proofs.kinds.joined.joined.Given as goal

abbrev pub invariant-loop-item : goal.invariant-loop-item
invariant-loop-item l = HaveJoined (map raw_item l.items) (map raw_item (drop l.item-index l.items)) l.text.items
