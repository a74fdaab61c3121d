use Rattle.zone_set.proofs.Common.{Bool, IsPutBefore, arith, false, false≢true, length, refl, subst, sym, true, ◌-◌, ◌<◌, ◌∙◌, ◌≡◌, ◌≤◌}
use Rattle.zone_set.proofs.Hints.Own.{put_more_is, put_nine_is, some_of_nine}
use Rattle.zone_set.proofs.hint.put_nine.Goals as goal
use Rattle.zone_set.proofs.hint.put_nine.Goals.{Then-digits-eq0}
use mir.Val.{bool_byte}

pub overflow_sub-result : goal.overflow_sub-result
overflow_sub-result c = by c.args.is_all (subst (λ d. 0 < d) (sym c.requires.digits) (some_of_nine c.args.label.now c.requires.long))
  where
    by : (all : Bool) → 0 < c.args.digits → bool_byte all ≤ c.args.digits
    by true some = omega (arith, some)
    by false some = omega arith

put : (c : Then-digits-eq0) (all : Bool) → c.args.is_all ≡ all → IsPutBefore c.args.label.now c.args.after (c.args.digits - bool_byte all)
put c true is = λ digits low was. put_nine_is c.args.label.now digits c.args.digits (c.requires.all.0 is) c.requires.digits c.if-digits-eq0.true low
put c false is =
    let other : length c.args.label.now ≡ 9 → ⊥ = λ nine. false≢true (sym is ∙ c.requires.all.1 nine) in
    let more : 9 < length c.args.label.now = omega (arith, c.requires.long, other) in
    let none : c.args.digits - bool_byte false ≡ c.args.digits = omega arith in
    λ digits low was. none ∙ put_more_is c.args.label.now digits c.args.digits more c.requires.digits c.if-digits-eq0.true

pub returns-then-digits-eq0 : goal.returns-then-digits-eq0
returns-then-digits-eq0 c = put c c.args.is_all refl
