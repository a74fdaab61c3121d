use Rattle.zone_set.proofs.Common.{IsPermutation, length, ◌*◌, ◌+◌, ◌-◌, ◌≡◌, ◌≤◌}
use Rattle.zone_set.proofs.keys.+keys.Given as goal

abbrev pub decreases-sort : goal.decreases-sort
decreases-sort l = 1000 * l.pivots + 3 * (328 - l.digit) + 2

abbrev pub decreases-sort_by_one : goal.decreases-sort_by_one
decreases-sort_by_one l = 1000 * l.pivots + 3 * (328 - l.digit) + 1

abbrev pub decreases-sort_keyed : goal.decreases-sort_keyed
decreases-sort_keyed l = 1000 * l.pivots + 3 * (328 - l.digit)

-- no digit is known here: all may be left
abbrev pub decreases-sort_places : goal.decreases-sort_places
decreases-sort_places l = 1000 * l.pivots + 985

abbrev pub invariant-sort-loop-hint : goal.invariant-sort-loop-hint
invariant-sort-loop-hint l =
    (l.start ≤ length l.entries) × (length l.entries ≡ length l.initial.entries)
    × IsPermutation l.initial.entries l.entries

abbrev pub decreases-sort-loop-hint : goal.decreases-sort-loop-hint
decreases-sort-loop-hint l = length l.initial.entries - l.start

abbrev pub invariant-sort_places-loop-place : goal.invariant-sort_places-loop-place
invariant-sort_places-loop-place l =
    (l.start ≤ length l.entries) × (length l.entries ≡ length l.initial.entries)
    × IsPermutation l.initial.entries l.entries

abbrev pub decreases-sort_places-loop-place : goal.decreases-sort_places-loop-place
decreases-sort_places-loop-place l = length l.initial.entries - l.start
