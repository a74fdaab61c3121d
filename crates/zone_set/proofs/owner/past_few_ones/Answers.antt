use Rattle.zone_set.proofs.Common.{arith, subst, sym, ◌*◌}
use Rattle.zone_set.proofs.Lists.Looking.{take_rest}
use Rattle.zone_set.proofs.Ordering.Owners.{after_few, end_few}
use Rattle.zone_set.specs.Machine.Owner.{IsAfterLabels, IsEndOf}
use Rattle.zone_set.proofs.owner.past_few_ones.Goals as goal

pub returns-clause-end : goal.returns-clause-end
returns-clause-end c = λ labels is.
    subst (IsEndOf labels) (sym (take_rest (2 * c.min-labels.result) c.args.name.now))
    (end_few c.args.name.now (c.are_ones.ensures c.if-not-are_ones.false) c.min-labels.result (omega (arith, c.min-labels.ensures)) (omega (arith, c.if-name-lt16.false)) labels is)

pub returns-clause-after : goal.returns-clause-after
returns-clause-after c =
    subst (IsAfterLabels c.args.name.now) (sym (take_rest (2 * c.min-labels.result) c.args.name.now))
    (after_few c.args.name.now (c.are_ones.ensures c.if-not-are_ones.false) c.min-labels.result (omega (arith, c.min-labels.ensures)) (omega (arith, c.if-name-lt16.false)))
