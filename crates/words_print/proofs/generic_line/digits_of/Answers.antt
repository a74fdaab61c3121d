use Rattle.std.proofs.Common.{sym, ◌∙◌}
use Rattle.words_print.proofs.DataEnds.{digits_behind, mark_alone, no_digits_behind}
use Rattle.words_print.proofs.generic_line.digits_of.Goals as goal

pub returns-in-Some-around_first : goal.returns-in-Some-around_first
returns-in-Some-around_first c = λ octets is.
    digits_behind octets c.in-Some.number.now c.in-Some-around_first.field-0-0.now c.in-Some-around_first.digits.now
    (mark_alone octets c.in-Some.field-0-0.now c.in-Some.number.now (sym is ∙ c.in-Some.ensures.some.whole) c.in-Some.ensures.some.none)
    c.in-Some-around_first.ensures.some.whole c.in-Some-around_first.ensures.some.none

pub returns-in-None : goal.returns-in-None
returns-in-None c = λ octets is.
    no_digits_behind octets c.in-Some.number.now
    (mark_alone octets c.in-Some.field-0-0.now c.in-Some.number.now (sym is ∙ c.in-Some.ensures.some.whole) c.in-Some.ensures.some.none)
    c.in-None.ensures.none
