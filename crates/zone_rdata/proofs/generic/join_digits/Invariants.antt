use Rattle.zone_rdata.proofs.Common.{◌≤◌, length, drop, map, raw}
use Rattle.zone_rdata.proofs.Items.GenericLaws.{HaveJoined}
use Rattle.zone_rdata.proofs.generic.join_digits.Given as goal

abbrev pub invariant-loop-item : goal.invariant-loop-item
invariant-loop-item l = HaveJoined (map raw l.items) (map raw (drop l.item-index l.items)) l.octets.items × (length l.octets.items ≤ l.len)
