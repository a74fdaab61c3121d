use Rattle.zone_engine.proofs.Common.{rules, ◌≤◌, ◌+◌, length, ◌∙◌, canon}
use Rattle.zone_engine.proofs.Compared.{walked_nothing, walked_more, walked_few, ends_first, ends_second, other_record}
use Rattle.zone_engine.proofs.comparison.first_difference.Goals as goal

pub overflow_add-line : goal.overflow_add-line
overflow_add-line c =
    let few : c.loop-rr.line ≤ length (canon c.args.zone.now) + 1 = walked_few _ _ _ _ _ c.loop-rr.invariant in search rules

pub loop-rr-init : goal.loop-rr-init
loop-rr-init c =
    walked_nothing _ _ _ _ (c.into_iter-rr-iterator.ensures.into_iter_gives ∙ c.records-rr-items.ensures.records) c.records-others.ensures.records

pub loop-rr-preserved : goal.loop-rr-preserved
loop-rr-preserved c =
    walked_more _ _ _ _ _ _ _ _ _ c.loop-rr.invariant c.in-Some.ensures.steps c.in-Some-next.ensures.steps (c.is_same.ensures.0 c.if-is_same.true)

pub returns-in_default : goal.returns-in_default
returns-in_default c =
    other_record _ _ _ _ _ _ _ _ _ c.equal_lines_are_equal_records.ensures
    c.records-rr-items.ensures.zone.compatible.each c.records-others.ensures.zone.compatible.each c.loop-rr.invariant
    c.in-Some.ensures.steps c.in-Some-next.ensures.steps (λ same. let yes = c.is_same.ensures.1 same in cc)

pub returns-in_default-2 : goal.returns-in_default-2
returns-in_default-2 c =
    let steps = rw c.in_default.is at c.next-in-loop-rr.ensures.steps in
    ends_second _ _ _ _ _ _ _ c.loop-rr.invariant c.in-Some.ensures.steps steps.0

pub returns-in-Some-next-2 : goal.returns-in-Some-next-2
returns-in-Some-next-2 c =
    ends_first _ _ _ _ _ _ _ c.loop-rr.invariant c.in-None.ensures.steps.0 c.in-Some-next-2.ensures.steps
