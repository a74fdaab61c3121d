use Rattle.zone_set.proofs.Common.{arith}
use Rattle.zone_set.proofs.Hints.Own.{number_of_all, number_of_parts}
use Rattle.zone_set.proofs.hint.put_longer.Goals as goal

pub put_own-requires-clause-digits : goal.put_own-requires-clause-digits
put_own-requires-clause-digits c =
    omega (arith, c.three.ensures.digits, c.one.ensures.digit, number_of_all 0 c.args.label.now c.in-Some.front.now c.in-Some.rest.now c.in-Some.ensures.cases (omega (arith, c.in-empty.len_below)))

pub put_own-requires-in-len1-clause-digits : goal.put_own-requires-in-len1-clause-digits
put_own-requires-in-len1-clause-digits c =
    omega (arith, c.three.ensures.digits, c.one.ensures.digit, c.one-in-len1.ensures.digit, number_of_all 1 c.args.label.now c.in-Some.front.now c.in-Some.rest.now c.in-Some.ensures.cases (omega (arith, c.in-len1.len_at_least, c.in-len1.len_below)))

pub put_own-requires-in-len2-clause-digits : goal.put_own-requires-in-len2-clause-digits
put_own-requires-in-len2-clause-digits c =
    omega (arith, c.three.ensures.digits, c.one.ensures.digit, c.two.ensures.digits, number_of_all 2 c.args.label.now c.in-Some.front.now c.in-Some.rest.now c.in-Some.ensures.cases (omega (arith, c.in-len2.len_at_least, c.in-len2.len_below)))

pub put_own-requires-in-len3-clause-digits : goal.put_own-requires-in-len3-clause-digits
put_own-requires-in-len3-clause-digits c =
    omega (arith, c.three.ensures.digits, c.one.ensures.digit, c.three-in-len3.ensures.digits, number_of_all 3 c.args.label.now c.in-Some.front.now c.in-Some.rest.now c.in-Some.ensures.cases (omega (arith, c.in-len3.len_at_least, c.in-len3.len_below)))

pub put_own-requires-in-len4-clause-digits : goal.put_own-requires-in-len4-clause-digits
put_own-requires-in-len4-clause-digits c =
    omega (arith, c.three.ensures.digits, c.one.ensures.digit, c.three-in-len4.ensures.digits, c.one-in-len4.ensures.digit, number_of_all 4 c.args.label.now c.in-Some.front.now c.in-Some.rest.now c.in-Some.ensures.cases (omega (arith, c.in-len4.len_at_least, c.in-len4.len_below)))

pub put_nine-requires-clause-digits : goal.put_nine-requires-clause-digits
put_nine-requires-clause-digits c =
    omega (arith, c.three.ensures.digits, c.one.ensures.digit, c.three-in-len5-up.ensures.digits, c.two-in-len5-up.ensures.digits, number_of_parts 5 c.args.label.now c.in-Some.front.now c.in-Some.rest.now c.in-Some.ensures.cases c.in-len5-up.len_at_least)
