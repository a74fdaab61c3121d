use Rattle.zone_words.proofs.Common.{HeldText, RewriterState, StandsForRewriting, held_of, subst, sym, ◌++◌}
use Rattle.zone_words.proofs.Standing.{stands_cleared}
use Rattle.zone_words.proofs.rewriter.Rewriter.clear_written.Goals as goal

pub returns-clause-stands : goal.returns-clause-stands
returns-clause-stands c origin fed given stands =
    let held : HeldText = held_of c.self.inside.writer in
    subst (λ (s : RewriterState). StandsForRewriting origin (record { held = record held { written = c.clear.new.self.items }; fed = c.self.inside.fed; status = c.self.inside.status }) fed (given ++ s.held.written)) c.self.view_is
    (stands_cleared origin held c.self.inside.fed c.self.inside.status c.clear.new.self.items c.clear.ensures.items fed given
    (subst (λ (s : RewriterState). StandsForRewriting origin s fed given) (sym c.self.view_is) stands))
