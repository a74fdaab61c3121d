use Rattle.zone_words.proofs.Common.{RewriterState, StandsForRewriting, StandsInPart, [], append-nil, state_of, subst, sym}
use Rattle.zone_words.proofs.Standing.{stands_finished, stands_in_part}
use Rattle.zone_rdata.specs.declared.fed.FedStatus.TheVariants.{OutOfMemory}
use Rattle.zone_words.proofs.rewriter.Rewriter.finish.Goals as goal

pub returns-in-Ok-clause-stands : goal.returns-in-Ok-clause-stands
returns-in-Ok-clause-stands c origin fed given stands =
    stands_finished c.self.inside.status c.self.inside.fed c.self.inside.writer c.finish.new.self c.in-Open.is c.in-Ok.ensures.all origin fed given
    (subst (λ (s : RewriterState). StandsForRewriting origin s fed given) (sym c.self.view_is) stands)

pub returns-in-Err-clause-in_part : goal.returns-in-Err-clause-in_part
returns-in-Err-clause-in_part c origin fed given stands =
    subst (λ t. StandsInPart origin (state_of OutOfMemory c.self.inside.fed c.drop_open.new.self) t given) (append-nil fed)
    (stands_in_part c.self.inside.status c.self.inside.fed c.self.inside.writer c.finish.new.self c.drop_open.new.self [] c.in-Open.is c.in-Err.ensures.in_part c.drop_open.ensures.same origin fed given
    (subst (λ (s : RewriterState). StandsForRewriting origin s fed given) (sym c.self.view_is) stands))
