use Rattle.std.proofs.Common.{◌≡◌, ◌≤◌, length}
use Rattle.zone_generate.specs.Steps.{AreWithin, TakesLines}
use Rattle.zone_generate.proofs.generated.Generated.next_lines.Given as goal

-- the lines for the first of the values were appended
abbrev pub invariant-lines : goal.invariant-lines
invariant-lines l = record {
  taken : TakesLines l.fn.self l.self l.fn.out.items l.out.items;
  within : AreWithin l.most l.fn.self.templates l.fn.out.items l.out.items;
  begun : l.begun ≡ length l.fn.out.items;
}

abbrev pub decreases-lines : goal.decreases-lines
decreases-lines l = length l.self.values
