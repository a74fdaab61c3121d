use Rattle.zone_text.proofs.Tokens.Cuttings.{one_break}
use Rattle.zone_text.proofs.laws.tokens.one_break_of_a_text.Goals as goal

pub returns : goal.returns
returns c = one_break
