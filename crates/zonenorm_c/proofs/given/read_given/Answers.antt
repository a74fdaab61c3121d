-- what each kind of input is read as
use Rattle.zonenorm_c.proofs.Givens.{file_of, rewritten_of}
use Rattle.zonenorm_c.specs.Giving.{as_transfer}
use Rattle.zonenorm_c.proofs.given.read_given.Goals as goal

pub returns-in_ok-origin-in-0-clause-read : goal.returns-in_ok-origin-in-0-clause-read
returns-in_ok-origin-in-0-clause-read c =
    file_of c.args.given.now c.in_ok-origin-in-0.origin c.in-0.is c.in_ok-origin-in-0.ensures.origin

pub returns-in-1-clause-read : goal.returns-in-1-clause-read
returns-in-1-clause-read c = as_transfer c.in-1.is

pub returns-in-Ok-clause-read : goal.returns-in-Ok-clause-read
returns-in-Ok-clause-read c =
    rewritten_of c.args.given.now c.in_ok-origin-in-2.origin c.in_ok-cased-in-2.cased
    c.in-Ok.rewritten.text.items c.in-Ok.rewritten.refusals c.in-2.is
    c.in_ok-origin-in-2.ensures.origin c.in_ok-cased-in-2.ensures.origin c.in-Ok.ensures
