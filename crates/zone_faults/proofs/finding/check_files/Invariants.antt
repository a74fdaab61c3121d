use Rattle.zone_faults.proofs.Checks.{FoundSo}
use Rattle.zone_faults.specs.Machine.Finding.{main_of}
use Rattle.zone_faults.proofs.finding.check_files.Given as goal

-- what was found so far
abbrev pub invariant-passes : goal.invariant-passes
invariant-passes g l = FoundSo (main_of l.input) l.most l.counter l.found.faults.items l.found.lines.items
