use Rattle.std.proofs.Common.{length}
use Rattle.zone_tests.proofs.tests.lists.listed.Given as goal

abbrev pub decreases-loop-element : goal.decreases-loop-element
decreases-loop-element l = length l.left
