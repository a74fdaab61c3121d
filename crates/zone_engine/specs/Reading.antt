-- What reading an input leaves of its reader, and why it stopped (this project's own).
use Rattle.std.specs.Prelude.{◌≡◌, ℕ, ◌+◌, ◌≤◌, List, length, IfSome, Result, MatchResult, ◌⊎◌}
use Rattle.std.specs.Io.KnownBytes.{Consumes, IsAtEnd}
use Rattle.zone_rdata.specs.declared.fault.Stop.{Stop}
use Rattle.zone_rdata.specs.declared.fault.Stop.TheVariants.{Refused, Read, Write, Memory}
use Rattle.zone_print.specs.Canonical.{text_limit}
use Rattle.zone_print.specs.Device.{Device, WorksOn, Fails}
use Rattle.zone_engine.specs.Input.{Input}
use Rattle.zone_engine.specs.Refusal.{IfRefused, IsRefusalWithin}

-- the known octets of a reader lost a prefix of at most so many
abbrev pub ConsumesAtMost : ℕ → Device → Device → Type 0
ConsumesAtMost most old new =
    (given : List ℕ) × (length given ≤ most) × Consumes old.octets new.octets given

-- no more than the limit and one octet were read
abbrev pub ReadsFew : Device → Device → Type 0
ReadsFew = ConsumesAtMost (text_limit + 1)

-- a reader was read whole: to its end, or to one octet over the limit
abbrev pub ReadsWhole : ℕ → Device → Device → Type 0
ReadsWhole limit old new = IsAtEnd new.octets
    ⊎ ((given : List ℕ) × (length given ≡ limit + 1) × Consumes old.octets new.octets given)

-- the stop of one read: `Read`, and the reader failed
abbrev pub IsFailedRead : Device → Device → Stop → Type 0
IsFailedRead old new (Refused fault place) = ⊥
IsFailedRead old new Read = Fails old new
IsFailedRead old new Write = ⊥
IsFailedRead old new Memory = ⊥

-- what a stop tells of a reader: `Read` that it failed, any other that it works
abbrev pub TellsRead : Device → Device → Stop → Type 0
TellsRead old new (Refused fault place) = WorksOn old new
TellsRead old new Read = Fails old new
TellsRead old new Write = WorksOn old new
TellsRead old new Memory = WorksOn old new

-- A reader was read to its end, at most one octet over the limit, and no call of it failed.
pub record ReadsToEnd (limit : ℕ) (old new : Device) : Type 0 where
  pub few : ConsumesAtMost (limit + 1) old new
  pub whole : IsAtEnd new.octets
  pub works : WorksOn old new

-- What stopped a call that reads an input: at most one octet over the limit was read; a refusal is
-- that of the octets, where they are known, and they were read whole; and `Read` tells that the
-- reader failed, any other stop that it works.
pub record StopsReading (limit : ℕ) (form : List ℕ → Input) (old new : Device)
    (stop : Stop) : Type 0 where
  pub few : ConsumesAtMost (limit + 1) old new
  pub fault : IfSome old.octets (λ octets. IfRefused stop (IsRefusalWithin limit (form octets)))
  pub whole : IfRefused stop (λ fault place. ReadsWhole limit old new)
  pub tells : TellsRead old new stop

-- what a call that reads an input says of its reader, by its answer
abbrev pub Reads : {T : Type 0} → ℕ → (List ℕ → Input) → Device → Device → Result T Stop → Type 0
Reads limit form old new answer =
    MatchResult answer (λ x. ReadsToEnd limit old new) (StopsReading limit form old new)
