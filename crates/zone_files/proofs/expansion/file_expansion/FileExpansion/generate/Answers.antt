use Rattle.zone_text.proofs.Common.{on_ok_weaker}
use Rattle.zone_files.proofs.Expansions.Following.{fewer_lines, follows_none, lines_follow}
use Rattle.zone_files.proofs.Expansions.Generating.{adds_none}
use Rattle.zone_files.proofs.Expansions.Turning.{goes_after}
use Rattle.zone_files.specs.declared.expansion.file_expansion.FileExpansion.{FileExpansion}
use Rattle.zone_files.proofs.expansion.file_expansion.FileExpansion.generate.Goals as goal

pub returns-then-not-is_generating-clause-follows : goal.returns-then-not-is_generating-clause-follows
returns-then-not-is_generating-clause-follows c = follows_none c.args.self.now c.args.out.now.items

pub returns-then-not-is_generating-clause-fewer : goal.returns-then-not-is_generating-clause-fewer
returns-then-not-is_generating-clause-fewer c e = absurd (c.is_generating.ensures.no c.if-not-is_generating.true e)

pub returns-then-not-is_generating-clause-within : goal.returns-then-not-is_generating-clause-within
returns-then-not-is_generating-clause-within c = adds_none c.args.self.now.progress.generated c.args.out.now.items

pub returns-clause-follows : goal.returns-clause-follows
returns-clause-follows c =
    let new : FileExpansion = record c.args.self.now { unfinished = c.clear.new.self; progress = c.push_lines.new.self } in
    on_ok_weaker c.push_lines.result (lines_follow c.args.self.now new (c.is_generating.ensures.yes c.if-not-is_generating.false) c.clear.ensures.octets c.args.out.now.items c.push_lines.new.out.items) c.push_lines.ensures.gives

pub returns-clause-fewer : goal.returns-clause-fewer
returns-clause-fewer c =
    let new : FileExpansion = record c.args.self.now { unfinished = c.clear.new.self; progress = c.push_lines.new.self } in
    on_ok_weaker c.push_lines.result (λ gives was. fewer_lines c.args.self.now new c.args.out.now.items c.push_lines.new.out.items gives) c.push_lines.ensures.gives

pub returns-then-not-is_generating-clause-after : goal.returns-then-not-is_generating-clause-after
returns-then-not-is_generating-clause-after c e = absurd (c.is_generating.ensures.no c.if-not-is_generating.true e)

pub returns-clause-after : goal.returns-clause-after
returns-clause-after c =
    let new : FileExpansion = record c.args.self.now { unfinished = c.clear.new.self; progress = c.push_lines.new.self } in
    on_ok_weaker c.push_lines.result (λ gives was. goes_after c.args.self.now new c.args.out.now.items c.push_lines.new.out.items gives) c.push_lines.ensures.gives
