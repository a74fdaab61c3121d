use Rattle.words_command.proofs.Halting.{◌≡◌, ap, subst, sym}
use Rattle.zone_rdata.specs.declared.fed.FedStatus.TheVariants.{Open}
use Rattle.zone_words.specs.Rewriter.{RewriterState}
use Rattle.words_command.proofs.Filters.{rewrites_given, rewritten_given}
use Rattle.words_command.proofs.filter.RewriterFilter.clear_written.Goals as goal

pub returns-clause-stands : goal.returns-clause-stands
returns-clause-stands c = rewrites_given c.args.self.now c.clear_written.new.self c.clear_written.ensures.cleared c.clear_written.ensures.stands

pub returns-clause-whole : goal.returns-clause-whole
returns-clause-whole c = rewritten_given c.args.self.now c.clear_written.new.self c.clear_written.ensures.cleared

pub returns-clause-going : goal.returns-clause-going
returns-clause-going c = λ going. subst (λ (s : RewriterState). s.status ≡ Open) (sym c.clear_written.ensures.cleared) going

pub returns-clause-count : goal.returns-clause-count
returns-clause-count c = ap (λ (s : RewriterState). s.fed) c.clear_written.ensures.cleared
