use Rattle.zone_words.proofs.Common.{RewriterState, StandsForRewriting, refl, subst, sym}
use Rattle.zone_words.proofs.Standing.{stands_in_part, stands_more}
use Rattle.zone_words.proofs.rewriter.Rewriter.feed.Goals as goal

pub returns-in-Ok-clause-stands : goal.returns-in-Ok-clause-stands
returns-in-Ok-clause-stands c origin fed given stands =
    stands_more c.self.inside.status c.self.inside.fed _ c.self.inside.writer c.feed.new.self c.args.piece.now c.in-Open.is refl c.in-Ok.ensures.follow origin fed given
    (subst (λ (s : RewriterState). StandsForRewriting origin s fed given) (sym c.self.view_is) stands)

pub returns-in-Err-clause-in_part : goal.returns-in-Err-clause-in_part
returns-in-Err-clause-in_part c origin fed given stands =
    stands_in_part c.self.inside.status c.self.inside.fed c.self.inside.writer c.feed.new.self c.drop_open.new.self c.args.piece.now c.in-Open.is c.in-Err.ensures.in_part c.drop_open.ensures.same origin fed given
    (subst (λ (s : RewriterState). StandsForRewriting origin s fed given) (sym c.self.view_is) stands)
