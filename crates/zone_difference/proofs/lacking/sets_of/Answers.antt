-- Nothing was looked up yet.
use Rattle.zone_difference.proofs.Looking.{at_start}
use Rattle.zone_difference.proofs.lacking.sets_of.Goals as goal

pub returns-in-Folded : goal.returns-in-Folded
returns-in-Folded c wanted each up = (c.in-Folded.is, at_start c.args.zone.now wanted c.new.result c.new.ensures.zone each up c.new.ensures.records c.new.ensures.head c.new.ensures.keys)
