-- a text that is refused with its letters kept spells no name
use Rattle.std.proofs.Common.{None}
use Rattle.zonenorm_c.proofs.given.cased_origin_in.Goals as goal

pub returns-in-Err-clause-none : goal.returns-in-Err-clause-none
returns-in-Err-clause-none c = λ name spells.
    let cased = c.letters_are_folded_before_or_after.ensures.from None c.args.text.now name tt c.are_octets.ensures.each spells in
    let h = c.in-Err.ensures.only cased.0 cased.1 in cc
