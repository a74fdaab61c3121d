use Rattle.words_command.proofs.Halting.{◌++◌, arith, ℕ, List}
use Rattle.words_command.proofs.Filters.{on_any_ok, shows_in_part, shows_more}
use Rattle.words_command.proofs.filter.WordsPrinterFilter.feed.Goals as goal

pub returns-clause-stands : goal.returns-clause-stands
returns-clause-stands c = shows_more c.args.self.now c.feed.new.self c.args.piece.now c.feed.result c.feed.ensures.stands

pub returns-clause-going : goal.returns-clause-going
returns-clause-going c = on_any_ok c.feed.result tt

pub returns-clause-count : goal.returns-clause-count
returns-clause-count c = on_any_ok c.feed.result (omega arith)

pub returns-clause-in_part : goal.returns-clause-in_part
returns-clause-in_part c = shows_in_part c.args.self.now c.feed.new.self (λ (fed : List ℕ). fed ++ c.args.piece.now) c.feed.result c.feed.ensures.in_part
