use Rattle.std.proofs.Common.{length, ◌↔◌}
use Rattle.data_names.specs.Machine.Front.{AreNames}
use Rattle.data_names.proofs.names.are_names.Given as goal

-- what is left is names exactly if all is
abbrev pub invariant-walk : goal.invariant-walk
invariant-walk l = AreNames l.rest ↔ AreNames l.octets

abbrev pub decreases-walk : goal.decreases-walk
decreases-walk l = length l.rest
