-- A printer that is fed a text in pieces: what it holds, and what it stands for. This is this
-- project's own.
use Rattle.std.specs.Prelude.{◌≡◌, ℕ, List, [], ◌++◌, Bool, false}
use Rattle.zone_print.specs.Laws.{HasNoFeed}
use Rattle.words_print.specs.Shown.{AreShown}

-- what it has written and nobody has taken, the line that isn't ended, and whether it has failed
pub record PrinterState : Type 0 where
  pub written : List ℕ
  pub waiting : List ℕ
  pub has_failed : Bool

-- the printer stands for the octets that it was fed, with what it has given of what it wrote: what
-- is shown for the lines that are ended
pub record StandsForWords (printer : PrinterState) (fed given : List ℕ) : Type 0 where
  pub works : printer.has_failed ≡ false
  pub done : List ℕ
  pub whole : fed ≡ done ++ printer.waiting
  pub unended : HasNoFeed printer.waiting
  pub shown : AreShown done (given ++ printer.written)

-- it was refused memory: what it has written is what is shown for the first lines
pub record StandsInPart (printer : PrinterState) (fed given : List ℕ) : Type 0 where
  pub done : List ℕ
  pub rest : List ℕ
  pub whole : fed ≡ done ++ rest
  pub shown : AreShown done (given ++ printer.written)

-- the printer when all that it has written was given
abbrev pub all_given : PrinterState → PrinterState
all_given printer = record printer { written = [] }
