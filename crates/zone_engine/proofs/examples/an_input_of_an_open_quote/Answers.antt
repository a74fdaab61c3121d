use Rattle.zone_engine.proofs.Common.{[], ◌∷◌, refl, arith, Some, UnclosedQuote, Line, unread, reading}
use Rattle.zone_text.specs.Breaks.{no_quote}
use Rattle.zone_text.specs.FileReads.{broken as by_broken}
use Rattle.zone_engine.proofs.Refusals.Deciding.{none_before}
use Rattle.zone_engine.proofs.examples.an_input_of_an_open_quote.Goals as goal

pub returns : goal.returns
returns c =
    reading [] (Some (UnclosedQuote, Line 1)) UnclosedQuote (Line 1) (omega arith)
    (by_broken [] UnclosedQuote (record { rest = 34 ∷ []; depth = 0; whole = refl; each = tt; follow = tt; last = tt; parentheses = refl; broken = no_quote [] tt refl }) (refl, refl))
    (unread UnclosedQuote (Line 1) none_before refl)
