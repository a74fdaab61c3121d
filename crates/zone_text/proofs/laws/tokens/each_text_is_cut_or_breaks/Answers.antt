use Rattle.zone_text.proofs.Tokens.Cuttings.{cut_or_broken}
use Rattle.zone_text.proofs.laws.tokens.each_text_is_cut_or_breaks.Goals as goal

pub returns : goal.returns
returns c = cut_or_broken
