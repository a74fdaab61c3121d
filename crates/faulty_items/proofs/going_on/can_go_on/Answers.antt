use Rattle.faulty_items.proofs.Common.{Ok, ap, refl, ◌∙◌}
use Rattle.faulty_items.proofs.CanGoOn.{is_put, none_goes_on, none_more, one_goes_on}
use Rattle.faulty_items.proofs.going_on.can_go_on.Goals as goal

pub returns-then-branch-clause-yes : goal.returns-then-branch-clause-yes
returns-then-branch-clause-yes c = λ yes f one.
    one_goes_on c.args.origin.now f c.args.items.now c.loop-more.more-index _ _
    (is_put f c.args.field.now _ c.args.items.now c.loop-more.more-index _ _ _ _ _ c.continuations-more-items.result.now one c.continuations-more-items.ensures c.loop-more-test.true refl c.clear.ensures.items c.in_ok-extend_from_slice.ensures.items (c.deref.ensures.value ∙ c.in_ok-extend_from_slice-2.ensures.items))
    (c.in_ok-are_so_far.ensures.yes (ap Ok c.if-branch.true) f one)

pub loop-more-preserved : goal.loop-more-preserved
loop-more-preserved c = λ f one.
    none_more c.args.origin.now f c.args.items.now c.loop-more.more-index _ _
    (is_put f c.args.field.now _ c.args.items.now c.loop-more.more-index _ _ _ _ _ c.continuations-more-items.result.now one c.continuations-more-items.ensures c.loop-more-test.true refl c.clear.ensures.items c.in_ok-extend_from_slice.ensures.items (c.deref.ensures.value ∙ c.in_ok-extend_from_slice-2.ensures.items))
    (c.in_ok-are_so_far.ensures.no (ap Ok c.if-branch.false) f one) (c.loop-more.invariant f one)

pub returns-clause-no : goal.returns-clause-no
returns-clause-no c = λ no f one.
    none_goes_on c.args.origin.now f c.args.field.now _ _ c.loop-more.more-index c.continuations-more-items.result.now one c.continuations-more-items.ensures c.loop-more-test.false (c.loop-more.invariant f one)
