use Rattle.zone_text.proofs.Tokens.Cuttings.{cut_not_broken}
use Rattle.zone_text.proofs.laws.tokens.no_text_is_cut_and_breaks.Goals as goal

pub returns : goal.returns
returns c = cut_not_broken
