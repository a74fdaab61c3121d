use Rattle.words_command.proofs.Halting.{ℕ, List}
use Rattle.words_command.proofs.Filters.{has_rewritten, rewrites_in_part}
use Rattle.words_command.proofs.filter.RewriterFilter.finish.Goals as goal

pub returns-clause-whole : goal.returns-clause-whole
returns-clause-whole c = has_rewritten c.args.self.now c.finish.new.self c.finish.result c.finish.ensures.stands c.finish.ensures.finished

pub returns-clause-in_part : goal.returns-clause-in_part
returns-clause-in_part c = rewrites_in_part c.args.self.now c.finish.new.self (λ (fed : List ℕ). fed) c.finish.result c.finish.ensures.in_part
