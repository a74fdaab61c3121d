use Rattle.zone_text.proofs.Common.{sym, ◌∙◌}
use Rattle.zone_text.proofs.Entries.Begun.{none_found, some_found}
use Rattle.zone_text.proofs.parts.ttl_has_value.Goals as goal

pub returns-in-Some-clause-yes : goal.returns-in-Some-clause-yes
returns-in-Some-clause-yes c e =
    let found = some_found c.ttl_of.result (sym c.is_some.ensures ∙ e) in
    rw c.in-Some.is (found.0, (rw found.1 at c.ttl_of.ensures.some))

pub returns-in-Some-clause-no : goal.returns-in-Some-clause-no
returns-in-Some-clause-no c e =
    let none = none_found c.ttl_of.result (sym c.is_some.ensures ∙ e) in
    rw c.in-Some.is (λ value. (rw none at c.ttl_of.ensures.none) value.0 value.1)
