use Rattle.std.proofs.lemmas.List.{nil_from_length}
use Rattle.std.proofs.Common.{subst, rules}
use Rattle.zone_files.specs.Machine.Lines.{LeavesOwner}
use Rattle.zone_files.proofs.Expansions.Lines.{line_behind, none_behind, stay_all, stay_owned}
use Rattle.zone_files.proofs.expansion.lines.lines_owner.Goals as goal

pub lines-init : goal.lines-init
lines-init c = record { before = c.requires; behind = none_behind c.args.origin.now c.args.lines.now }

pub returns-in-Some : goal.returns-in-Some
returns-in-Some c = stay_owned c.args.origin.now c.args.lines.now c.lines.front.now c.last_line.result.0.now c.last_line.result.1.now c.in-Some.name c.wire-octets.ensures.name c.lines.invariant.behind c.last_line.ensures.parts c.last_line.ensures.before c.are_octets.ensures.each c.last_line.ensures.line (subst (LeavesOwner c.args.origin.now c.last_line.result.1.now) c.in-Some.is c.line_owner.ensures)

pub lines-preserved : goal.lines-preserved
lines-preserved c = record {
  before = c.last_line.ensures.before;
  behind = line_behind c.args.origin.now c.args.lines.now c.lines.front.now c.last_line.result.0.now c.last_line.result.1.now c.line_owner.result c.lines.invariant.behind c.last_line.ensures.parts c.last_line.ensures.line c.line_owner.ensures c.in-None.is;
}

pub returns : goal.returns
returns c = stay_all c.args.origin.now c.args.lines.now c.lines.front.now c.lines.invariant.behind (nil_from_length c.lines.front.now (search rules))
