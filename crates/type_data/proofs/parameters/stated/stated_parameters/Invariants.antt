use Rattle.type_data.proofs.Common.{HasStated, drop, given, length, map, ◌-◌, ◌≤◌}
use Rattle.type_data.proofs.parameters.stated.stated_parameters.Given as goal

abbrev pub invariant-loop-place : goal.invariant-loop-place
invariant-loop-place l = record { inside : l.place ≤ length l.items; read : HasStated (map given l.items) (map given (drop l.place l.items)) l.stated }

abbrev pub decreases-loop-place : goal.decreases-loop-place
decreases-loop-place l = length l.items - l.place
