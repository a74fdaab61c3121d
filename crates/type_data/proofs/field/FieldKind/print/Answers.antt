use Rattle.type_data.proofs.field.FieldKind.print.Goals as goal

pub returns-in-Bare-clause-none : goal.returns-in-Bare-clause-none
returns-in-Bare-clause-none c = rw c.in-Bare.is c.print_first.ensures.none

pub returns-in-OneString-clause-none : goal.returns-in-OneString-clause-none
returns-in-OneString-clause-none c = rw c.in-OneString.is c.print_one_string.ensures.none
