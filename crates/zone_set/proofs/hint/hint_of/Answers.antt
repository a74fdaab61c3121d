use Rattle.zone_set.proofs.Common.{◌≡◌, ◌≢◌, ◌+◌, refl, sym, ap, ◌∙◌, false≢true, name_cmp, soa, before, within}
use Rattle.zone_set.proofs.Hints.HintOrder.{hint_after}
use Rattle.zone_set.proofs.hint.hint_of.Goals as goal
use Rattle.zone_set.proofs.hint.hint_of.Goals.{After-cmp}

-- how the owner lies to the base
lies : (c : After-cmp) → name_cmp c.args.owner.now c.args.base.now ≡ c.cmp.result
lies c = ap (name_cmp c.args.owner.now) (sym c.lend.ensures.value) ∙ sym c.cmp.ensures

other : (c : After-cmp) → c.args.kind ≢ 6
other c e = false≢true (c.if-is_soa.ensures.1 e)

pub returns-then-is_soa : goal.returns-then-is_soa
returns-then-is_soa c = soa (c.if-is_soa.ensures.0 refl) refl

pub returns-in-Some : goal.returns-in-Some
returns-in-Some c =
    let found = c.in-Some.ensures.within in
    within found.0 (λ e. false≢true (c.if-is_soa.ensures.1 e)) found.1 (ap (λ k. 2 + k) found.2)

pub returns-in-Less : goal.returns-in-Less
returns-in-Less c = let p = (goal.at.returns-in-Less c).After-cmp in before (other p) (lies p ∙ c.in-Less.is) refl

pub returns-in-Equal : goal.returns-in-Equal
returns-in-Equal c = let p = (goal.at.returns-in-Equal c).After-cmp in hint_after c.args.base.now c.args.owner.now c.args.kind c.cmp.result (other p) c.in-None.ensures.none (lies p) c.in-Equal.is
