use Rattle.zone_text.proofs.Common.{FileKept, SourceState, StandsForFile, false, subst, sym, ◌≡◌}
use Rattle.zone_text.proofs.Files.Standing.{stands_finished}
use Rattle.zone_text.proofs.text_source.TextSource.finish.Goals as goal

pub returns-in-Ok-clause-stands : goal.returns-in-Ok-clause-stands
returns-in-Ok-clause-stands c origin fed given stands =
    stands_finished origin c.self.inside.status c.self.inside.fed c.self.inside.splitter.ended c.finish.new.self.ended c.self.inside.splitter.unfinished.octets c.finish.new.self.unfinished.octets fed given
    (subst (λ (s : SourceState FileKept). s.held.finished ≡ false) (sym c.self.view_is) c.requires.going)
    c.in-Ok.ensures.reads
    (subst (λ (s : SourceState FileKept). StandsForFile origin s fed given) (sym c.self.view_is) stands)
