use Rattle.zone_set.proofs.Common.{IsFirst, bytes_eq-Decides, subst, sym, ◌∙◌, ◌≡◌}
use Rattle.zone_set.proofs.owner.first_labels.Goals as goal

pub returns-then-are_same : goal.returns-then-are_same
returns-then-are_same c =
    let same : c.in_ok-label.rest.now ≡ c.in_ok-other.more.now = (bytes_eq-Decides c.in_ok-label.rest.now c.in_ok-other.more.now).0 (sym c.are_same.ensures ∙ c.if-are_same.true) in
    record {
      rest = c.in_ok-label.rest.now;
      first = c.in_ok-label.ensures.parts;
      second = subst (IsFirst c.args.b.now c.in_ok-other.other.now) (sym same) c.in_ok-other.ensures.parts;
    }
