use Rattle.zone_set.proofs.Common.{ap, nil_from_length, subst, sym, ◌*◌, ◌+◌, ◌-◌, ◌/◌, ◌∙◌}
use Rattle.std.specs.Prelude.{◌%◌}
use Rattle.zone_set.proofs.Hints.Own.{IsPutFrom, put_all, put_own_octet, put_shared_octet}
use Rattle.zone_set.proofs.hint.put_octets.Goals as goal

pub loop-octet-preserved-then-digit-eq0 : goal.loop-octet-preserved-then-digit-eq0
loop-octet-preserved-then-digit-eq0 c =
    subst (λ d. IsPutFrom c.args.label.now c.in-Some.front.now c.args.after ((d - c.loop-octet.ended) * 72057594037927936 + c.loop-octet.key / 128) 0) (sym c.one-digit.ensures.digit)
    (put_own_octet c.args.label.now c.loop-octet.left.now c.in-Some.front.now c.in-Some.octet.now c.args.after c.loop-octet.key c.loop-octet.ended c.loop-octet.invariant c.in-Some.ensures.cases.0
    (ap (λ d. d % 2) (sym c.one-digit.ensures.digit) ∙ c.if-digit-eq0.true))

pub loop-octet-preserved : goal.loop-octet-preserved
loop-octet-preserved c =
    subst (λ d. IsPutFrom c.args.label.now c.in-Some.front.now c.args.after (d * 72057594037927936) 0) (sym c.one-digit.ensures.digit)
    (put_shared_octet c.args.label.now c.loop-octet.left.now c.in-Some.front.now c.in-Some.octet.now c.args.after c.loop-octet.key c.loop-octet.ended c.loop-octet.invariant c.in-Some.ensures.cases.0
    (λ even. c.if-digit-eq0.false (ap (λ d. d % 2) c.one-digit.ensures.digit ∙ even)))

pub returns : goal.returns
returns c = put_all c.args.label.now c.args.after c.loop-octet.key c.loop-octet.ended (subst (λ l. IsPutFrom c.args.label.now l c.args.after c.loop-octet.key c.loop-octet.ended) (nil_from_length _ c.in_default.ensures.cases) c.loop-octet.invariant)
