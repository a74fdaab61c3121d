-- What a sink takes.
use Rattle.std.specs.Prelude.{◌≡◌, ◌≤◌, ℕ, List, ◌++◌, length}

-- the sink took some list of octets, perhaps none
abbrev pub TakesSome : {S : Type 0} → (S → List ℕ → S → Type 0) → S → S → Type 0
TakesSome takes old new = (added : List ℕ) × takes old added new

-- octets are added after those that a room for so many holds, where they fit
abbrev pub TakesWhatFits : ℕ → List ℕ → List ℕ → List ℕ → Type 0
TakesWhatFits room held octets next = length (held ++ octets) ≤ room → next ≡ held ++ octets
