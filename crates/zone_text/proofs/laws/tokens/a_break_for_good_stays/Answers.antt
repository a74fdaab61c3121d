use Rattle.zone_text.proofs.Tokens.Lasting.{breaks_for_good}
use Rattle.zone_text.proofs.laws.tokens.a_break_for_good_stays.Goals as goal

pub returns : goal.returns
returns c = breaks_for_good
