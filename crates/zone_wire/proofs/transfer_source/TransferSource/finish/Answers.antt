use Rattle.zone_wire.proofs.Common.{StandsForStream, ap, subst, sym, ◌∙◌}
use Rattle.zone_wire.proofs.Streams.Feeding.{stands_follow, finished_stands}
use Rattle.zone_wire.proofs.transfer_source.TransferSource.finish.Goals as goal

pub returns-clause-stands : goal.returns-clause-stands
returns-clause-stands c = λ fed given stands.
    let s = c.self.inside in
    let old = subst (λ x. StandsForStream x fed given) (sym c.self.view_is) stands in
    let going = ap (λ x. x.held.finished) c.self.view_is ∙ c.requires.going in
    let follow = stands_follow s.status s.fed s.framer.transfer s.framer.unfinished.items fed given going old in
    finished_stands s.fed c.finish.new.self.transfer c.finish.new.self.unfinished.items fed given old.octets old.count (c.finish.ensures.reads fed given follow)
