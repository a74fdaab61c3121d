use Rattle.zone_text.proofs.Tokens.ForGood.{break_stays_or_ends, stays_or_ends_alone}
use Rattle.zone_text.proofs.laws.tokens.a_break_stays_or_stands_at_the_end.Goals as goal

pub returns : goal.returns
returns c = record { either = break_stays_or_ends; not_both = stays_or_ends_alone }
