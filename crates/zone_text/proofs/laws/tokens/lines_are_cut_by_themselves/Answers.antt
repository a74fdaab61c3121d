use Rattle.zone_text.proofs.Tokens.Lasting.{cut_joined, break_joined}
use Rattle.zone_text.proofs.laws.tokens.lines_are_cut_by_themselves.Goals as goal

pub returns : goal.returns
returns c = record { cut = cut_joined; broken = break_joined }
