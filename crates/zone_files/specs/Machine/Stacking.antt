-- How the files that are open go on, before a fault ends the text.
use Rattle.std.specs.Prelude.{◌≡◌, ℕ, ◌+◌, ◌≤◌, ◌<◌, ◌⊎◌, List, ◌++◌, length}
use Rattle.zone_files.specs.Expansion.{Holds}
use Rattle.zone_files.specs.IncludeStack.{FedFiles, StackState, StandForFiles, fed_ended, fed_more, feeds_in, stop_line}
use Rattle.zone_files.specs.Places.{counted}

-- this was given, and what was fed changed so
pub record GivesOn (old : StackState) (changed : FedFiles → FedFiles) (new : StackState)
    (before after : List ℕ) : Type 0 where
  pub made : List ℕ
  pub written : after ≡ before ++ made
  pub line : new.next_line ≡ counted (old.next_line + feeds_in made)
  pub stand : (first : Holds) (fed : FedFiles) (given : List ℕ)
      → StandForFiles old first fed given → StandForFiles new first (changed fed) (given ++ made)

-- a front of the octets was taken, as those of the innermost file
pub record TakesPart (old : StackState) (octets left : List ℕ) (new : StackState)
    (before after : List ℕ) : Type 0 where
  pub part : List ℕ
  pub whole : octets ≡ part ++ left
  pub outer : new.outer ≡ old.outer
  pub gives : GivesOn old (fed_more part) new before after

-- So many files have ended since a start, with the one that was the innermost before the first of them
-- ended.
pub record EndsSoFar (start old new : StackState) (before after : List ℕ) : Type 0 where
  pub ended : ℕ
  pub outer : length start.outer ≡ ended + length new.outer
  pub gives : GivesOn start (fed_ended ended) new before after
  pub same : (new.innermost ≡ old.innermost) ⊎ (1 ≤ ended)

-- no file has ended, or fewer wait
abbrev pub IsSameOrShorter : StackState → StackState → Type 0
IsSameOrShorter old new =
    ((new.innermost ≡ old.innermost) × (length new.outer ≡ length old.outer))
    ⊎ (length new.outer < length old.outer)

-- Each file ends whose last entry included the one that ended, whatever was given since a start for
-- the innermost file.
abbrev pub EndsOutward : StackState → StackState → List ℕ → List ℕ → Type 0
EndsOutward old new before after =
    (start : StackState) (first : List ℕ) → old.outer ≡ start.outer
    → GivesOn start (λ fed. fed) old first before → EndsSoFar start old new first after

-- the last line was written, where a fault has ended the text
pub record StopsText (old new : StackState) (before after : List ℕ) : Type 0 where
  pub innermost : new.innermost ≡ old.innermost
  pub outer : new.outer ≡ old.outer
  pub written : after ≡ before ++ stop_line old.innermost.status
  pub line : new.next_line ≡ counted (old.next_line + feeds_in (stop_line old.innermost.status))
