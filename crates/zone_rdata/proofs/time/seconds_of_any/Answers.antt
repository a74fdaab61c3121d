use Rattle.zone_rdata.proofs.Common.{◌≡◌, arith, false, get_or, if_none_any, inl, inr, is_digit, nat_tests, take_all, true}
use Rattle.zone_rdata.proofs.Numbers.TimeLaws.{digit_read, ends_grouped, ends_open, none_empty, time_stops, unit_read}
use Rattle.zone_rdata.proofs.time.seconds_of_any.Goals as goal
use Rattle.zone_rdata.proofs.time.seconds_of_any.Goals.{else-is_ascii_digit+in_ok-number+in_ok-seconds_of_unit, then-is_ascii_digit, then-is_empty-via-else-is_empty+then-is_some, then-is_empty-via-then-is_empty}

pub loop-octet-preserved : goal.loop-octet-preserved
loop-octet-preserved c = elim c.if-is_ascii_digit.branch [
  | then-is_ascii_digit w ↦
      let digit : is_digit (get_or c.args.text.now c.loop-octet.octet-index 0) ≡ true = grind (arith, nat_tests, c.is_ascii_digit.ensures.value, w.if-is_ascii_digit.true) in
      rw (w.total-is, w.number-is) (digit_read c.args.text.now c.loop-octet.octet-index 0 c.loop-octet.total c.loop-octet.number _ c.loop-octet-test.true digit (grind (arith, w.unwrap_or-front.ensures, w.from.ensures, w.min.ensures)) c.loop-octet.invariant)
  | else-is_ascii_digit+in_ok-number+in_ok-seconds_of_unit w ↦
      rw (w.total-is, w.number-is) (unit_read c.args.text.now c.loop-octet.octet-index 0 c.loop-octet.total _ w.in_ok-seconds_of_unit.field-0 w.in_ok-number.field-0 c.loop-octet.number c.loop-octet-test.true (grind (arith, w.in_ok-seconds_of_unit.was, w.seconds_of_unit.ensures.value)) (grind (arith, w.in_ok-number.was)) (grind (arith, w.min-total.ensures)) c.loop-octet.invariant)
]

pub returns-in_err-number-clause-none : goal.returns-in_err-number-clause-none
returns-in_err-number-clause-none c =
    let other : is_digit (get_or c.args.text.now c.loop-octet.octet-index 0) ≡ false = grind (arith, nat_tests, c.is_ascii_digit.ensures.value, c.if-is_ascii_digit.false) in
    if_none_any c.from_residual.result _ (time_stops c.args.text.now c.loop-octet.octet-index 0 _ _ c.loop-octet-test.true other (inl (grind (arith, c.in_err-number.was))) c.loop-octet.invariant)

pub returns-in_err-seconds_of_unit-clause-none : goal.returns-in_err-seconds_of_unit-clause-none
returns-in_err-seconds_of_unit-clause-none c =
    let other : is_digit (get_or c.args.text.now c.loop-octet.octet-index 0) ≡ false = grind (arith, nat_tests, c.is_ascii_digit.ensures.value, c.if-is_ascii_digit.false) in
    if_none_any c.from_residual-in_err-seconds_of_unit.result _ (time_stops c.args.text.now c.loop-octet.octet-index 0 _ _ c.loop-octet-test.true other (inr (grind (arith, c.in_err-seconds_of_unit.was, c.seconds_of_unit.ensures.value))) c.loop-octet.invariant)

pub returns-then-is_empty-clause-none : goal.returns-then-is_empty-clause-none
returns-then-is_empty-clause-none c = λ m time. elim c.then-is_empty.branch [
  | then-is_empty-via-then-is_empty w ↦ none_empty c.args.text.now m (grind (arith, c.is_empty.ensures, w.if-is_empty.true)) time
  | then-is_empty-via-else-is_empty+then-is_some w ↦ ends_open c.args.text.now c.loop-octet.total m c.loop-octet.number (grind (arith, w.is_some.ensures, w.if-is_some.true)) c.in_default.ensures.none (rw (take_all c.loop-octet.octet-index c.args.text.now c.loop-octet-test.false) at c.loop-octet.invariant) time
]

pub returns-clause-found : goal.returns-clause-found
returns-clause-found c =
    ends_grouped c.args.text.now c.loop-octet.total c.loop-octet.number (grind (arith, c.is_empty.ensures, c.if-is_empty.false)) (grind (arith, c.is_some.ensures, c.if-is_some.false)) (rw (take_all c.loop-octet.octet-index c.args.text.now c.loop-octet-test.false) at c.loop-octet.invariant)
