use Rattle.zone_text.proofs.Common.{FileKept, SourceState, StandsForFile, arith, false, refl, subst, sym, ◌≡◌}
use Rattle.zone_text.proofs.Files.Standing.{stands_more}
use Rattle.zone_text.proofs.text_source.TextSource.feed.Goals as goal

pub returns-in-Ok-clause-stands : goal.returns-in-Ok-clause-stands
returns-in-Ok-clause-stands c origin fed given stands =
    stands_more origin c.self.inside.status c.self.inside.fed _ c.self.inside.splitter.ended c.feed.new.self.ended c.self.inside.splitter.unfinished.octets c.feed.new.self.unfinished.octets c.args.piece.now fed given
    (subst (λ (s : SourceState FileKept). s.held.finished ≡ false) (sym c.self.view_is) c.requires.going)
    (λ i. omega (arith, c.type_inv.piece i)) refl
    c.in-Ok.ensures.follow
    (subst (λ (s : SourceState FileKept). StandsForFile origin s fed given) (sym c.self.view_is) stands)
