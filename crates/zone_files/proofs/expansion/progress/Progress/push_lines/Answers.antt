use Rattle.std.proofs.Common.{refl}
use Rattle.zone_files.specs.Machine.Progressing.{gives_fault, gives_last, gives_some}
use Rattle.zone_files.proofs.expansion.progress.Progress.push_lines.Goals as goal

pub returns-in-More-clause-gives : goal.returns-in-More-clause-gives
returns-in-More-clause-gives c =
    gives_some c.in-Some.lines c.next_lines.new.self c.in-Some.is c.in_ok-next_lines.ensures.taken refl (c.in_ok-next_lines.ensures.fewer c.in-More.is) refl refl refl

pub returns-in-AtEnd-clause-gives : goal.returns-in-AtEnd-clause-gives
returns-in-AtEnd-clause-gives c =
    gives_last c.in-Some.lines c.next_lines.new.self c.in-Some.is c.in_ok-next_lines.ensures.taken (rw c.in-AtEnd.is at c.in_ok-next_lines.ensures.state) c.end_of-self.ensures refl

pub returns-in-BadTemplate-clause-gives : goal.returns-in-BadTemplate-clause-gives
returns-in-BadTemplate-clause-gives c =
    gives_fault c.in-Some.lines c.next_lines.new.self c.in-BadTemplate.value c.in-Some.is c.in_ok-next_lines.ensures.taken (rw c.in-BadTemplate.is at c.in_ok-next_lines.ensures.state) refl
