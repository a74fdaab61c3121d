use Rattle.zone_text.proofs.Tokens.Lasting.{cut_parted, break_parted}
use Rattle.zone_text.proofs.laws.tokens.a_text_is_parted_at_depth_zero.Goals as goal

pub returns : goal.returns
returns c = record { cut = cut_parted; broken = break_parted }
