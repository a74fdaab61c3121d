use Rattle.zone_name.proofs.Common.{Ok, ap, false≢true}
use Rattle.zone_name.proofs.cased.CasedName.from_text.Goals as goal

pub returns-clause-only : goal.returns-clause-only
returns-clause-only c = λ name spells. ap (λ t. Ok t) (c.in_ok-set_from_text.ensures.only name spells).1

pub returns-in_err-set_from_text-clause-only : goal.returns-in_err-set_from_text-clause-only
returns-in_err-set_from_text-clause-only c = λ name spells. absurd (false≢true (c.in_err-set_from_text.ensures.only name spells).0)
