use Rattle.zone_files.proofs.Expansions.Lines.{LastLine, last_at}
use Rattle.zone_files.proofs.expansion.lines.last_line.Goals as goal

last_is : (c : goal.After-split_at-2) → LastLine c.args.lines.now c.split_at-2.result.0.now c.split_at-2.result.1.now
last_is c = last_at c.args.lines.now c.split_at.result.0.now c.split_after_feed.result.0.now c.split_after_feed.result.1.now _ _ c.requires.lines c.requires.some c.split_at.ensures.front c.split_after_feed.ensures c.split_at-2.ensures.front c.split_at-2.ensures.back

pub returns-clause-before : goal.returns-clause-before
returns-clause-before c = (last_is c).before_is

pub returns-clause-line : goal.returns-clause-line
returns-clause-line c = (last_is c).line_is

pub returns-clause-parts : goal.returns-clause-parts
returns-clause-parts c = (last_is c).parts

pub returns-clause-shorter : goal.returns-clause-shorter
returns-clause-shorter c = (last_is c).shorter
