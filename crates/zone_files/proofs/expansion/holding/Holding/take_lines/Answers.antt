use Rattle.std.proofs.Common.{◌∙◌, ap, rules}
use Rattle.zone_files.specs.Expansion.{owned_by}
use Rattle.zone_files.proofs.Expansions.Lines.{stays_by}
use Rattle.zone_files.proofs.expansion.holding.Holding.take_lines.Goals as goal

pub returns : goal.returns
returns c = stays_by _ c.args.lines.now c.lines_owner-found.result c.args.self.now _ c.lines_owner-found.ensures (search rules) c.requires.may (c.hold_owner.ensures ∙ ap (owned_by c.lines_owner-found.result) c.pass.ensures)
