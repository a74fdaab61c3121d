use Rattle.std.proofs.lemmas.List.{nil_from_length}
use Rattle.zone_text.proofs.Common.{EndsAt, arith, length, map, raw, refl, stops_bare, subst, sym, ◌∙◌}
use Rattle.zone_text.proofs.Scanning.StopMarks.{prefix_stops}
use Rattle.zone_text.proofs.Scanning.Walking.{IsPast, begun_before, begun_there, deep_of, few_of, no_escape_stop, open_to_end, past_more, stands, tells_after, walked_bare, walked_blank}
use Rattle.zone_text.proofs.walk.walk_on.Goals as goal
use Rattle.zone_text.proofs.walk.walk_on.Goals.{then-stop-eq92+in_ok-step, else-stop-eq92+in_ok-keep_bare-2+in_ok-step-2}

pub split_at-requires-in-loop-stop : goal.split_at-requires-in-loop-stop
split_at-requires-in-loop-stop c = (prefix_stops c.loop-stop.walk.rest.now c.bare_len-len.result.0 c.bare_len-len.ensures.len).0

pub returns-in_default-clause-walked : goal.returns-in_default-clause-walked
returns-in_default-clause-walked c =
    stands c.args.octets.now c.loop-stop.walk.rest.now c.loop-stop.walk.depth c.loop-stop.walk.feeds (length c.loop-stop.walk.rest.now) c.args.keeps _ _ c.loop-stop.invariant.walked
    (open_to_end c.loop-stop.walk.rest.now c.split_at-in-loop-stop.result.1.now c.bare_len-len.result.0 c.bare_len-len.ensures.len c.split_at-in-loop-stop.ensures.back (nil_from_length c.split_at-in-loop-stop.result.1.now c.in_default.ensures.cases))
    refl (omega (arith, few_of _ _ _ _ _ _ c.loop-stop.invariant.walked)) (omega arith) refl refl

pub is_blank_stop-requires : goal.is_blank_stop-requires
is_blank_stop-requires c = subst (EndsAt stops_bare) (sym c.split_at-in-loop-stop.ensures.back ∙ c.in-Some.ensures.cases.0) (prefix_stops c.loop-stop.walk.rest.now c.bare_len-len.result.0 c.bare_len-len.ensures.len).2

pub loop-stop-preserved-then-is_blank_stop : goal.loop-stop-preserved-then-is_blank_stop
loop-stop-preserved-then-is_blank_stop c =
    let is = sym c.is_blank_stop.ensures ∙ c.if-is_blank_stop.true in
    let so_far = walked_bare c.args.octets.now c.loop-stop.walk.rest.now c.split_at-in-loop-stop.result.0.now c.split_at-in-loop-stop.result.1.now c.in-Some.rest.now c.loop-stop.walk.depth c.loop-stop.walk.feeds c.in-Some.stop.now c.bare_len-len.result.0 c.args.keeps _ _ c.loop-stop.invariant.walked c.bare_len-len.ensures.len c.split_at-in-loop-stop.ensures.front c.split_at-in-loop-stop.ensures.back c.in-Some.ensures.cases.0 (no_escape_stop c.in-Some.stop.now is) c.in_ok-keep_bare.ensures in
    let next = walked_blank c.args.octets.now _ c.in-Some.rest.now c.loop-stop.walk.depth c.loop-stop.walk.feeds c.in-Some.stop.now c.args.keeps _ so_far c.in-Some.ensures.cases.0 is in
    record {
      walked = next;
      tells = tells_after c.bare_len-len.result.1 c.loop-stop.walk.rest.now c.split_at-in-loop-stop.result.1.now c.in-Some.rest.now c.in-Some.stop.now c.bare_len-len.result.0 c.split_at-in-loop-stop.ensures.back c.in-Some.ensures.cases.0 c.bare_len-len.ensures.tells;
      deep = deep_of _ _ _ _ _ _ next;
      few = few_of _ _ _ _ _ _ next;
    }

pub pass_token-requires-clause-begun : goal.pass_token-requires-clause-begun
pass_token-requires-clause-begun c =
    begun_before c.args.octets.now c.loop-stop.walk.rest.now c.split_at-in-loop-stop.result.1.now _ c.in-Some.stop.now c.bare_len-len.result.0 c.args.keeps _ c.loop-stop.invariant.walked c.split_at-in-loop-stop.ensures.back c.in-Some.ensures.cases.0 c.bare_len-len.ensures.tells

pub pass_mark-requires-clause-stops : goal.pass_mark-requires-clause-stops
pass_mark-requires-clause-stops c = subst (EndsAt stops_bare) (sym c.split_at-in-loop-stop.ensures.back ∙ c.in-Some.ensures.cases.0) (prefix_stops c.loop-stop.walk.rest.now c.bare_len-len.result.0 c.bare_len-len.ensures.len).2

pub pass_mark-requires-clause-begun : goal.pass_mark-requires-clause-begun
pass_mark-requires-clause-begun c =
    let so_far = walked_bare c.args.octets.now c.loop-stop.walk.rest.now c.split_at-in-loop-stop.result.0.now c.split_at-in-loop-stop.result.1.now c.in-Some.rest.now c.loop-stop.walk.depth c.loop-stop.walk.feeds c.in-Some.stop.now c.bare_len-len.result.0 c.args.keeps _ _ c.loop-stop.invariant.walked c.bare_len-len.ensures.len c.split_at-in-loop-stop.ensures.front c.split_at-in-loop-stop.ensures.back c.in-Some.ensures.cases.0 c.if-stop-eq92.false c.in_ok-keep_bare-2.ensures in
    begun_there c.args.octets.now c.loop-stop.walk.rest.now c.split_at-in-loop-stop.result.1.now _ c.in-Some.stop.now c.bare_len-len.result.0 c.args.keeps _ so_far c.split_at-in-loop-stop.ensures.back c.in-Some.ensures.cases.0 c.bare_len-len.ensures.tells

pub loop-stop-preserved : goal.loop-stop-preserved
loop-stop-preserved c =
    let past : IsPast c.args.octets.now c.loop-stop.walk.rest.now c.in-Goes.next c.args.keeps (map raw c.if-stop-eq92.items.items) = elim c.if-stop-eq92.branch [
      | then-stop-eq92+in_ok-step w ↦ rw w.items-is (rw (← w.step-is, c.in-Goes.is) at w.in_ok-step.ensures)
      | else-stop-eq92+in_ok-keep_bare-2+in_ok-step-2 w ↦ rw w.items-is (past_more c.args.octets.now c.loop-stop.walk.rest.now c.split_at-in-loop-stop.result.1.now c.in-Goes.next c.bare_len-len.result.0 c.args.keeps _ c.split_at-in-loop-stop.ensures.back (rw (← w.step-is, c.in-Goes.is) at w.in_ok-step-2.ensures))
    ] in
    record {
      walked = past.walked;
      tells = past.tells;
      deep = deep_of _ _ _ _ _ _ past.walked;
      few = few_of _ _ _ _ _ _ past.walked;
    }
