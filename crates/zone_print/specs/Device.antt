-- What is known of a reader or a writer, and what calls of it leave (this project's own).
use Rattle.std.specs.Prelude.{ℕ, List, Option, ⊤}
use Rattle.std.specs.Io.KnownBytes.{Keeps}

-- The octets that a reader has still to give or that a writer holds, where they are known; that no
-- call of it has failed; and that its last call failed, and none before.
pub record Device : Type 1 where
  pub octets : Option (List ℕ)
  pub works : Type 0
  pub failed : Type 0

-- a reader or a writer of std, of whose failures nothing is known
abbrev pub of_std : Option (List ℕ) → Device
of_std octets = record { octets = octets; works = ⊤; failed = ⊤ }

-- no call of it failed, from the one state to the other
abbrev pub WorksOn : Device → Device → Type 0
WorksOn old new = old.works → new.works

-- the last call of it failed, and none before
abbrev pub Fails : Device → Device → Type 0
Fails old new = old.works → new.failed

-- it was left as it was
abbrev pub IsLeft : Device → Device → Type 0
IsLeft old new = Keeps old.octets new.octets × WorksOn old new
