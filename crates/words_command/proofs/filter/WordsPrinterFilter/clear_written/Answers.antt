use Rattle.words_command.proofs.filter.WordsPrinterFilter.clear_written.Goals as goal

pub returns-clause-stands : goal.returns-clause-stands
returns-clause-stands c = λ any fed given is. c.clear_written.ensures.stands fed given is

pub returns-clause-whole : goal.returns-clause-whole
returns-clause-whole c = λ any octets text is. is

pub returns-clause-going : goal.returns-clause-going
returns-clause-going c = λ going. tt
