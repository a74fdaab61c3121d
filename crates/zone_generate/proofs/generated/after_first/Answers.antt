use Rattle.zone_generate.proofs.ValueLines.{values_more}
use Rattle.zone_generate.proofs.generated.after_first.Goals as goal

pub returns-clause-values : goal.returns-clause-values
returns-clause-values c = values_more c.args.range.count c.args.range.step c.args.range.start c.requires.some
