use Rattle.zone_set.proofs.Common.{◌≡◌, ◌∙◌, arith, bytes_eq-Decides, sym}
use Rattle.zone_set.proofs.Ordering.Octets.{same_by_eights}
use Rattle.zone_set.proofs.order.are_same.Goals as goal

pub returns-then-eq : goal.returns-then-eq
returns-then-eq c =
    let same : c.in-Some-Some.last.now ≡ c.in-Some-Some.other.now = (bytes_eq-Decides _ _).0 (sym c.eq.ensures ∙ c.if-eq.true) in
    same_by_eights _ _ _ c.have_same_eights.ensures.same c.have_same_eights.ensures.other (grind (arith, c.if-a-b.false)) c.in-Some-Some.ensures.cases.0 (sym c.in-Some-Some.ensures.cases.1.same ∙ same ∙ c.in-Some-Some.ensures'.cases.1.same)
