use Rattle.zone_text.proofs.Common.{err_from_is_err_and, refl, sym, ◌∙◌}
use Rattle.zone_text.proofs.Heads.WordsLeft.{takes_ttl, takes_class, refuses_class}
use Rattle.zone_text.proofs.words.Words.with.Goals as goal

pub returns-then-begins_with_digit-clause-found : goal.returns-then-begins_with_digit-clause-found
returns-then-begins_with_digit-clause-found c words have =
    takes_ttl words _ _ _ _ have (sym c.begins_with_digit.ensures ∙ c.if-begins_with_digit.true) (sym c.is_some.ensures ∙ c.if-is_some.false) c.in_ok-ttl.ensures.found refl refl

pub returns-in_err-class-clause-fault : goal.returns-in_err-class-clause-fault
returns-in_err-class-clause-fault c words have =
    let p = err_from_is_err_and c.from_residual-in_err-class.result c.from_residual-in_err-class.ensures.1 in
    let bad = c.in_err-class.ensures.err in
    rw (p.1, p.2) (refuses_class words _ _ bad.1.0 _ have (sym c.begins_with_digit.ensures ∙ c.if-begins_with_digit.false) (sym c.is_some-2.ensures ∙ c.if-is_some-2.false) bad.1.1.0 bad)

pub returns-clause-found : goal.returns-clause-found
returns-clause-found c words have =
    takes_class words _ _ _ c.in-Some.class have (sym c.begins_with_digit.ensures ∙ c.if-begins_with_digit.false) (sym c.is_some-2.ensures ∙ c.if-is_some-2.false) (rw c.in-Some.is at c.in_ok-class.ensures.found) c.known.ensures refl refl
