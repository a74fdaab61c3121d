use Rattle.zone_set.proofs.Common.{ap, arith, length, subst, sym, ◌*◌, ◌+◌, ◌-◌, ◌/◌, ◌<◌, ◌^◌, ◌∙◌, ◌≡◌, ◌≤◌}
use Rattle.std.proofs.Math.Nat.{mod-eq_of_lt}
use Rattle.std.specs.Prelude.{◌%◌}
use Rattle.zone_set.proofs.Hints.Own.{own_bound, own_room, put_own_is, some_digits}
use Rattle.zone_set.proofs.hint.put_own.Goals as goal
use Rattle.zone_set.proofs.hint.put_own.Goals.{Then-digits-eq0}

pub overflow_sub-result : goal.overflow_sub-result
overflow_sub-result c = subst (λ d. 1 ≤ d) (sym c.requires.digits) (some_digits c.args.label.now c.requires.some)

module _ (c : Then-digits-eq0) where
  room : ((c.args.digits - 1) * 2 ^ c.args.shift < 2 ^ 63) × (c.args.after / 2 ^ (63 - c.args.shift) < 2 ^ 63)
  room = own_room (length c.args.label.now) c.args.shift c.args.digits c.args.after c.requires.some c.requires.room (subst (λ d. d < 128 ^ length c.args.label.now) (sym c.requires.digits) (own_bound c.args.label.now)) c.ranges.after.fits

  same : (c.args.digits - 1) * 2 ^ c.args.shift % 18446744073709551616 ≡ (c.args.digits - 1) * 2 ^ c.args.shift
  same = mod-eq_of_lt (omega (arith, room.0))

pub overflow_add-result : goal.overflow_add-result
overflow_add-result c = omega (arith, same c, (room c).0, (room c).1)

pub returns-then-digits-eq0 : goal.returns-then-digits-eq0
returns-then-digits-eq0 c = λ digits low is.
    ap (λ f. f + c.args.after / 2 ^ (63 - c.args.shift)) (same c)
    ∙ put_own_is c.args.label.now digits c.args.digits c.args.shift c.args.after c.requires.some c.requires.room c.requires.digits c.if-digits-eq0.true low is
