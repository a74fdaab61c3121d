use Rattle.words_command.proofs.Halting.{◌++◌, ◌+◌, length, ℕ, List}
use Rattle.words_command.proofs.Filters.{at_most, rewrites_in_part, rewrites_more}
use Rattle.words_command.proofs.filter.RewriterFilter.feed.Goals as goal

pub returns-clause-stands : goal.returns-clause-stands
returns-clause-stands c = rewrites_more c.args.self.now c.feed.new.self c.args.piece.now c.feed.result c.feed.ensures.stands c.feed.ensures.goes_on

pub returns-clause-count : goal.returns-clause-count
returns-clause-count c = at_most c.feed.new.self.fed (c.args.self.now.fed + length c.args.piece.now) c.feed.result c.feed.ensures.count

pub returns-clause-in_part : goal.returns-clause-in_part
returns-clause-in_part c = rewrites_in_part c.args.self.now c.feed.new.self (λ (fed : List ℕ). fed ++ c.args.piece.now) c.feed.result c.feed.ensures.in_part
