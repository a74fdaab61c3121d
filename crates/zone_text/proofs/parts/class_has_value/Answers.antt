use Rattle.zone_text.proofs.Common.{IsClass, IsClassWord, NothingIs, subst}
use Rattle.zone_text.proofs.parts.class_has_value.Goals as goal

pub returns-in-Ok-None-clause-no : goal.returns-in-Ok-None-clause-no
returns-in-Ok-None-clause-no c e =
    let none : NothingIs (IsClassWord c.in-Some.word.now) = rw c.in-Ok-None.field-0-is at c.in-Ok-None.ensures.none in
    rw c.in-Some.is (λ value. none value.0 value.1.0)

pub returns-in-Err-clause-no : goal.returns-in-Err-clause-no
returns-in-Err-clause-no c e =
    let bad = c.in-Err.ensures.err in
    rw c.in-Some.is (λ value. bad.1.1.1 (subst IsClass (c.lower_laws.ensures.class c.in-Some.word.now value.0 bad.1.0 value.1.0 bad.1.1.0) value.1.1))
