use Rattle.zone_wire.proofs.Common.{HoldsName-finish, arith, labels_of-finish, take, take_more_set, ◌∙◌}
use Rattle.zone_wire.proofs.labels.LabelRoom.lend.Goals as goal

pub of_wire-requires : goal.of_wire-requires
of_wire-requires c =
    HoldsName-finish (take c.self.inside.len c.self.inside.octets) _ c.self.invariant.holds
    (take_more_set c.self.inside.octets c.self.inside.len 0 (omega (arith, c.self.invariant.within)))

pub returns : goal.returns
returns c =
    c.of_wire.ensures
    ∙ labels_of-finish (take c.self.inside.len c.self.inside.octets) _ c.self.invariant.holds
    (take_more_set c.self.inside.octets c.self.inside.len 0 (omega (arith, c.self.invariant.within)))
    ∙ c.self.view_is
