use Rattle.zone_wire.proofs.Common.{StandsForStream, ap, arith, length-append, subst, sym, ◌++◌, ◌∙◌}
use Rattle.zone_wire.proofs.Streams.Feeding.{stands_follow, follow_stands}
use Rattle.zone_wire.proofs.transfer_source.TransferSource.feed.Goals as goal

pub returns-in-Ok-clause-stands : goal.returns-in-Ok-clause-stands
returns-in-Ok-clause-stands c = λ fed given stands.
    let s = c.self.inside in
    let old = subst (λ x. StandsForStream x fed given) (sym c.self.view_is) stands in
    let going = ap (λ x. x.held.finished) c.self.view_is ∙ c.requires.going in
    let follow = stands_follow s.status s.fed s.framer.transfer s.framer.unfinished.items fed given going old in
    follow_stands s.status _ c.feed.new.self.transfer c.feed.new.self.unfinished.items (fed ++ c.args.piece.now) given old.works going (omega (arith, old.count, length-append fed c.args.piece.now)) (c.in-Ok.ensures.follow fed given follow)
