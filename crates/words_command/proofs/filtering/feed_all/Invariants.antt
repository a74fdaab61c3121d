use Rattle.words_command.proofs.Halting.{[], ◌-◌, ◌+◌, ◌^◌}
use Rattle.words_command.proofs.Feeding.{HasFed}
use Rattle.words_command.proofs.filtering.feed_all.Given as goal

-- what was read so far was fed, and what that decides was written
abbrev pub invariant-loop-count : goal.invariant-loop-count
invariant-loop-count g l =
    let read = g.R.OctetReader.state in
    let written = g.W.OctetWriter.state in
    HasFed (λ (under : g.F.Filter.Under). g.F.Filter.Stands under l.initial.filter [] []) (λ (under : g.F.Filter.Under). g.F.Filter.Stands under l.filter) (g.F.Filter.IsOpen l.filter) (g.F.Filter.fed l.filter) l.is_inside (read l.initial.input) (read l.input) (written l.initial.output) (written l.output) l.count

-- the octets that may still come
abbrev pub decreases-loop-count : goal.decreases-loop-count
decreases-loop-count g l = 2 ^ 63 + 1 - l.count
