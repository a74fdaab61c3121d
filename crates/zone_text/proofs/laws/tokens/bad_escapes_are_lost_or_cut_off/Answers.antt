use Rattle.zone_text.proofs.Tokens.ForGood.{bad_is_malformed, malformed_is_bad}
use Rattle.zone_text.proofs.laws.tokens.bad_escapes_are_lost_or_cut_off.Goals as goal

pub returns : goal.returns
returns c = λ rest. (bad_is_malformed rest, malformed_is_bad rest)
