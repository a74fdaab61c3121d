use Rattle.words_command.proofs.Halting.{ℕ, List}
use Rattle.words_command.proofs.Filters.{has_shown, shows_in_part}
use Rattle.words_command.proofs.filter.WordsPrinterFilter.finish.Goals as goal

pub returns-clause-whole : goal.returns-clause-whole
returns-clause-whole c = has_shown c.args.self.now c.finish.new.self c.finish.result c.finish.ensures.text

pub returns-clause-in_part : goal.returns-clause-in_part
returns-clause-in_part c = shows_in_part c.args.self.now c.finish.new.self (λ (fed : List ℕ). fed) c.finish.result c.finish.ensures.in_part
