use Rattle.type_data.proofs.kinds.location.metres.size_in.Goals as goal

pub returns-in_default-clause-none : goal.returns-in_default-clause-none
returns-in_default-clause-none c = λ n is. c.in_default.ensures.none is.0 (is.1.0, is.1.1.0)

pub returns-clause-found : goal.returns-clause-found
returns-clause-found c = (c.in-Some.size, (c.in-Some.ensures.found.0, (c.in-Some.ensures.found.1, c.first_digit.ensures)))
