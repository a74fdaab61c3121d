use Rattle.zone_files.proofs.Expansions.Following.{lines_taken}
use Rattle.zone_files.proofs.expansion.file_expansion.FileExpansion.take_lines.Goals as goal

pub returns-clause-taken : goal.returns-clause-taken
returns-clause-taken c =
    let none = c.may_take_lines.ensures.none c.if-not-may_take_lines.false in
    lines_taken c.args.self.now (record c.args.self.now { progress = record c.args.self.now.progress { holding = c.take_lines.new.self } }) c.requires.going c.args.octets.now c.lines_in_front.result.0.now c.lines_in_front.result.1.now c.args.out.now.items c.extend_from_slice.new.self.items none none c.requires.going c.lines_in_front.ensures.parts c.take_lines.ensures c.in_ok-extend_from_slice.ensures.items
