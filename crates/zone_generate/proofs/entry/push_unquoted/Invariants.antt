use Rattle.std.proofs.Common.{◌≡◌, ◌++◌, length}
use Rattle.zone_generate.specs.Entry.{unquoted}
use Rattle.zone_generate.proofs.entry.push_unquoted.Given as goal

abbrev pub invariant-loop-first : goal.invariant-loop-first
invariant-loop-first l = l.out.items ++ unquoted l.rest ≡ l.initial.out.items ++ unquoted l.text

abbrev pub decreases-loop-first : goal.decreases-loop-first
decreases-loop-first l = length l.rest
