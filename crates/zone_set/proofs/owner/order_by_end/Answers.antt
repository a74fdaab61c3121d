use Rattle.zone_set.proofs.Common.{bytes_eq-Decides, subst, sym, ◌∙◌, ◌≡◌}
use Rattle.zone_set.proofs.Ordering.Owners.{order_of_before}
use Rattle.zone_set.specs.Machine.Owner.{IsLabelBefore}
use Rattle.zone_set.proofs.owner.order_by_end.Goals as goal

pub returns-in_default : goal.returns-in_default
returns-in_default c =
    let same : c.in_ok-label.rest.now ≡ c.in_ok-other.more.now = (bytes_eq-Decides c.in_ok-label.rest.now c.in_ok-other.more.now).0 (sym c.are_same.ensures ∙ c.if-not-are_same.false) in
    c.octet_order.ensures ∙ order_of_before c.args.a.now c.args.b.now c.in_ok-label.label.now c.in_ok-other.other.now c.in_ok-other.more.now (subst (IsLabelBefore c.args.a.now c.in_ok-label.label.now) same c.in_ok-label.ensures) c.in_ok-other.ensures (λ equal. c.in_default.not-Equal (c.octet_order.ensures ∙ equal))
