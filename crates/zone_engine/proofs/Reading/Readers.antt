-- What calls leave of the reader of an input.
use Rattle.zone_engine.proofs.Common.{◌≡◌, ℕ, ◌≤◌, ◌+◌, length, inl, inr, arith, Option, IfSome, Result, Consumes, Keeps, Octets, Fault, InputTooLong, Place, Whole, Stop, Refused, Input, Device, WorksOn, IsOfBytes, IfRefused, IsRefusalWithin, ConsumesAtMost, IsFailedRead, Reads, ReadsToEnd, StopsReading, Memory}
use Rattle.std.specs.Prelude.{IfErr}
use Rattle.std.proofs.KnownBytes.{Consumes-kept}

-- a stop that is no refusal refuses no octets
unrefused : (known : Option Octets) → IfSome known (λ octets. Unit {0})
unrefused known = grind arith

pub if_refused : (P : Type 0) (stop : Stop) → P → IfRefused stop (λ fault place. P)
if_refused P stop h = grind arith

module _ (limit : ℕ) (form : Octets → Input) where
  -- a read failed after others
  pub stops_failed : (old mid new : Device) (given : Octets) (stop : Stop) → Consumes old.octets mid.octets given → length given ≤ limit + 1 → WorksOn old mid → Keeps mid.octets new.octets → IsFailedRead mid new stop → StopsReading limit form old new stop
  stops_failed old mid new given stop consumed few works kept fails = grind (arith, unrefused, Consumes-kept)

  -- memory was refused
  pub stops_memory : (old new : Device) (stop : Stop) → ConsumesAtMost (limit + 1) old new → WorksOn old new → stop ≡ Memory → StopsReading limit form old new stop
  stops_memory old new stop few works is = grind (arith, unrefused)

  -- an input that was read to its end is judged
  pub judged : {T : Type 0} (old new : Device) (r : Result T Stop) (P : Stop → Type 0) → ReadsToEnd limit old new → IfErr r IsOfBytes → IfErr r P → ((stop : Stop) → P stop → IfSome old.octets (λ octets. IfRefused stop (IsRefusalWithin limit (form octets)))) → Reads limit form old new r
  judged old new r P end of_bytes p refuses = grind (arith, if_refused)

  -- an input of too many octets was read to the first of these
  pub stops_too_long : (old new : Device) (given : Octets) → Consumes old.octets new.octets given → length given ≡ limit + 1 → WorksOn old new → IfSome old.octets (λ octets. IsRefusalWithin limit (form octets) InputTooLong Whole) → StopsReading limit form old new (Refused InputTooLong Whole)
  stops_too_long old new given consumed is works fault = record { few = (given, omega (arith, is), consumed); fault = fault; whole = inr (given, is, consumed); tells = works }

  -- one that was read to its end is refused
  pub stops_refused : (old new : Device) (fault : Fault) (place : Place) → ReadsToEnd limit old new → IfSome old.octets (λ octets. IsRefusalWithin limit (form octets) fault place) → StopsReading limit form old new (Refused fault place)
  stops_refused old new fault place end is = record { few = end.few; fault = is; whole = inl end.whole; tells = end.works }
