use Rattle.std.proofs.Common.{length}
use Rattle.zone_files.proofs.Expansions.Naming.{LabelsLeft}
use Rattle.zone_files.proofs.expansion.names.push_name.Given as goal

-- the text of the labels that were taken is appended
abbrev pub invariant-labels : goal.invariant-labels
invariant-labels l = LabelsLeft l.name l.rest l.fn.out.items l.out.items

abbrev pub decreases-labels : goal.decreases-labels
decreases-labels l = length l.rest
