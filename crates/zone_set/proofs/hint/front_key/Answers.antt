use Rattle.zone_set.proofs.Common.{ap, arith, bytes_decides, false≢true, inl, inr, length, sym, ◌∙◌, ⊎_elim}
use Rattle.zone_set.proofs.Hints.HintWalk.{walked_found, walked_gathered, walked_next, walked_none, walked_short, walked_some}
use Rattle.zone_set.proofs.hint.front_key.Goals as goal

pub loop-left-init : goal.loop-left-init
loop-left-init c =
    walked_gathered c.args.base.now c.args.owner.now c.past_far-near.result.now c.gather_nine-key.result.1.now _ c.gather_nine-key.result.0 (c.past_far-near.ensures.end c.args.owner.now c.wire.ensures.octets)
    (⊎_elim (λ same. inl (same ∙ c.wire.ensures.octets)) (λ far. inr (omega (arith, far, ap length c.wire-ending.ensures.octets))) c.past_far-near.ensures.far) c.wire.ensures.name (ap length c.wire-ending.ensures.octets) c.gather_nine-key.ensures

pub returns-in_err-label-clause-none : goal.returns-in_err-label-clause-none
returns-in_err-label-clause-none c =
    absurd (walked_some c.args.base.now c.args.owner.now c.loop-left.left.now c.loop-left.key c.loop-left.invariant c.wire.ensures.name
    (omega (arith, c.loop-left-test.true, ap length c.wire-ending.ensures.octets)) c.in_err-label.ensures.none)

pub loop-left-preserved : goal.loop-left-preserved
loop-left-preserved c =
    walked_next c.args.base.now c.args.owner.now c.loop-left.left.now c.loop-left.key c.loop-left.invariant c.wire.ensures.name c.in_ok-label.label.now c.in_ok-label.rest.now _
    (omega (arith, c.loop-left-test.true, ap length c.wire-ending.ensures.octets)) c.in_ok-label.ensures.parts c.put_label-key.ensures

pub returns-then-are_same-clause-within : goal.returns-then-are_same-clause-within
returns-then-are_same-clause-within c =
    walked_found c.args.base.now c.args.owner.now c.loop-left.left.now c.loop-left.key c.loop-left.invariant c.wire.ensures.name c.wire-ending.ensures.name
    ((bytes_decides _ _).0 (sym c.if-are_same.ensures) ∙ c.wire-ending.ensures.octets)

pub returns-then-are_same-clause-short : goal.returns-then-are_same-clause-short
returns-then-are_same-clause-short c = walked_short c.args.base.now c.args.owner.now c.loop-left.left.now c.loop-left.key c.loop-left.invariant c.wire.ensures.name

pub returns-else-are_same-clause-none : goal.returns-else-are_same-clause-none
returns-else-are_same-clause-none c =
    walked_none c.args.base.now c.args.owner.now c.loop-left.left.now c.loop-left.key c.loop-left.invariant c.wire.ensures.name
    (omega (arith, c.loop-left-test.false, ap length c.wire-ending.ensures.octets))
    (λ same. false≢true (c.if-are_same.ensures ∙ (bytes_decides _ _).1 (same ∙ sym c.wire-ending.ensures.octets)))
