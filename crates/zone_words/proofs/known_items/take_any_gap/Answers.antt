use Rattle.zone_words.proofs.KnownItems.{gap_kept, gap_passed, passed_blank, passed_other}
use Rattle.zone_words.proofs.known_items.take_any_gap.Goals as goal

pub loop-after-preserved-in_ok-extend_from_slice :
    goal.loop-after-preserved-in_ok-extend_from_slice
loop-after-preserved-in_ok-extend_from_slice c =
    passed_other c.args.octets.now c.loop-after.rest.now c.in-Some.after.now _ _ _ _ c.in-Some.ensures.shorter (rw c.if-not-begins_with_blank.true at c.begins_with_blank.ensures) c.in-Some.ensures.found c.split_at.ensures.front c.in_ok-extend_from_slice.ensures.items c.loop-after.invariant

pub loop-after-preserved : goal.loop-after-preserved
loop-after-preserved c =
    passed_blank c.args.octets.now c.loop-after.rest.now c.in-Some.after.now _ _ c.in-Some.ensures.shorter (rw c.if-not-begins_with_blank.false at c.begins_with_blank.ensures) c.in-Some.ensures.found c.loop-after.invariant

pub returns-clause-passed : goal.returns-clause-passed
returns-clause-passed c = gap_passed c.args.octets.now c.loop-after.rest.now _ _ c.in_default.ensures.none c.loop-after.invariant

pub returns-clause-kept : goal.returns-clause-kept
returns-clause-kept c = gap_kept c.args.octets.now c.loop-after.rest.now _ _ c.in_default.ensures.none c.loop-after.invariant
