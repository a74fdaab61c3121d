use Rattle.zone_text.proofs.Common.{[], ap, arith, count_by, sym, ◌++◌, ◌==◌, ◌∙◌, ◌∷◌, ◌≡◌}
use Rattle.zone_text.proofs.Scanning.FirstEntries.{feeds_of_both, none_of_any}
use Rattle.zone_text.proofs.feeds.line_feeds.Goals as goal

pub returns-in-Some-eq10-default-clause-count : goal.returns-in-Some-eq10-default-clause-count
returns-in-Some-eq10-default-clause-count c =
    let front = c.in-Some-eq10-default.front.now in
    let one : 1 ≡ count_by (λ c. c == 10) (front ++ 10 ∷ []) = omega (arith, none_of_any front (sym c.contains.ensures.value ∙ c.if-not-contains.true), feeds_of_both front (10 ∷ [])) in
    one ∙ ap (count_by (λ c. c == 10)) (ap (λ t. front ++ t ∷ []) (sym c.in-Some-eq10-default.field-0-0-test) ∙ sym c.in-Some-eq10-default.ensures.cases.0)
