use Rattle.zone_wire.proofs.Common.{ap, arith, folded, labels_of, octets_between, ◌++◌, ◌∙◌}
use Rattle.zone_wire.proofs.Names.RunLaws.{pushed}
use Rattle.zone_wire.proofs.labels.LabelRoom.push.Goals as goal

pub invariant_of-self : goal.invariant_of-self
invariant_of-self c =
    let more = pushed c.args.message.now c.self.inside.octets c.copy_folded.new.room c.self.inside.len c.args.start c.args.past c.args.self.now c.self.invariant c.self.view_is c.requires.run c.requires.fits c.copy_folded.ensures in
    record { within = omega (arith, more.1, c.copy_folded.auto.room, c.self.ranges); holds = more.0.holds }

pub returns : goal.returns
returns c =
    let more = pushed c.args.message.now c.self.inside.octets c.copy_folded.new.room c.self.inside.len c.args.start c.args.past c.args.self.now c.self.invariant c.self.view_is c.requires.run c.requires.fits c.copy_folded.ensures in
    more.0.gives ∙ ap (λ t. t ++ folded (labels_of (octets_between c.args.message.now c.args.start c.args.past))) c.self.view_is
