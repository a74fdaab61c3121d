use Rattle.type_data.proofs.Common.{arith, nat_tests}
use Rattle.std.proofs.lemmas.List.{nil_from_length}
use Rattle.type_data.proofs.OfParameters.Texts.{begin_alone, begin_bare, begin_quoted, some_value}
use Rattle.type_data.proofs.parameters.text.first_parameter.Goals as goal

pub returns-in_default-cut_at_first-clause-found : goal.returns-in_default-cut_at_first-clause-found
returns-in_default-cut_at_first-clause-found c = begin_alone c.args.items.now c.in_ok-first.rest.now c.in_ok-first.first.now c.in-Bare.text c.in_ok-first.ensures.cases.0 c.in-Bare.is c.in_default-cut_at_first.ensures.none

pub returns-then-not-is_empty-clause-found : goal.returns-then-not-is_empty-clause-found
returns-then-not-is_empty-clause-found c = begin_bare c.args.items.now c.in_ok-first.rest.now c.in_ok-first.first.now c.in-Bare.text c.in-Some.key.now c.in-Some.value.now c.in_ok-first.ensures.cases.0 c.in-Bare.is c.in-Some.ensures.found (λ empty quote. some_value c.in-Some.value.now (grind (arith, nat_tests, c.is_empty.ensures, c.if-not-is_empty.true)) empty)

pub returns-in-Some-touching_quote-clause-found : goal.returns-in-Some-touching_quote-clause-found
returns-in-Some-touching_quote-clause-found c = begin_quoted c.args.items.now c.in_ok-first.rest.now c.in_ok-first.first.now c.in-Bare.text c.in-Some.key.now c.in-Some.value.now c.in-Some-touching_quote.quoted.now c.in_ok-first.ensures.cases.0 c.in-Bare.is c.in-Some.ensures.found (nil_from_length c.in-Some.value.now (grind (arith, nat_tests, c.is_empty.ensures, c.if-not-is_empty.false))) c.in-Some-touching_quote.ensures.found

pub returns-in-None-clause-found : goal.returns-in-None-clause-found
returns-in-None-clause-found c = begin_bare c.args.items.now c.in_ok-first.rest.now c.in_ok-first.first.now c.in-Bare.text c.in-Some.key.now c.in-Some.value.now c.in_ok-first.ensures.cases.0 c.in-Bare.is c.in-Some.ensures.found (λ empty quote. c.in-None.ensures.none quote)
