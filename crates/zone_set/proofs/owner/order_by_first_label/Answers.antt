use Rattle.zone_set.proofs.Common.{ap, bytes_eq-Decides, labels_of, name_cmp, name_cmp-total, sym, tied_itself, ◌∙◌}
use Rattle.zone_set.proofs.Ordering.Owners.{order_of_child, order_of_first, order_of_parent}
use Rattle.zone_set.proofs.owner.order_by_first_label.Goals as goal

pub returns-then-are_same : goal.returns-then-are_same
returns-then-are_same c =
    let same = (bytes_eq-Decides _ _).0 (sym c.are_same.ensures ∙ c.if-are_same.true) in
    sym (ap (λ b. name_cmp (labels_of c.args.a.now) (labels_of b)) (sym same) ∙ tied_itself name_cmp-total (labels_of c.args.a.now))

pub returns-in-Some : goal.returns-in-Some
returns-in-Some c = c.octet_order.ensures ∙ order_of_first _ _ _ _ c.in-Some.ensures

pub returns-then-is_child : goal.returns-then-is_child
returns-then-is_child c =
    let child = c.is_child.ensures c.if-is_child.true in
    sym (order_of_child _ _ child.0 child.1)

pub returns-then-is_child-2 : goal.returns-then-is_child-2
returns-then-is_child-2 c =
    let child = c.is_child-else-is_child.ensures c.if-is_child-2.true in
    sym (order_of_parent _ _ child.0 child.1)
