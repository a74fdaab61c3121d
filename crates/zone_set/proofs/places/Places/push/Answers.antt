use Rattle.zone_set.proofs.Common.{ap, ◌∙◌, ◌++◌, ◌∷◌, [], Whole}
use Rattle.zone_set.proofs.Storage.PlaceSteps.{found, stepped_more, LeadTo-more}
use Rattle.zone_set.proofs.places.Places.push.Goals as goal

pub invariant_of-self-2 : goal.invariant_of-self-2
invariant_of-self-2 c =
    let f = found c.self.inside.last c.args.place c.self.inside.far.items c.in_ok-step.step _ c.in_ok-step.ensures.kept in
    rw (c.push_reserved.ensures.items, c.reserve.ensures.items, f.is)
    (LeadTo-more c.self.inside.last c.args.place c.in_ok-step.step f.more f.leads f.some f.left Whole c.self.inside.steps.items c.self.inside.far.items c.self.invariant)

pub returns-clause-pushed : goal.returns-clause-pushed
returns-clause-pushed c =
    let f = found c.self.inside.last c.args.place c.self.inside.far.items c.in_ok-step.step _ c.in_ok-step.ensures.kept in
    rw (c.push_reserved.ensures.items, c.reserve.ensures.items, f.is)
    (stepped_more c.self.inside.last c.args.place c.in_ok-step.step f.more f.leads Whole c.self.inside.steps.items c.self.inside.far.items c.self.invariant ∙ ap (λ ps. ps ++ c.args.place ∷ []) c.self.view_is)
