-- What calls leave of the reader of a source.
use Rattle.std.proofs.Common.{◌≡◌, ℕ, ◌+◌, ◌<◌, ◌≤◌, List, [], ◌++◌, length, length-append, refl, sym, ap, ◌∙◌, subst, append-nil, inl, inr, arith}
use Rattle.std.specs.Prelude.{◌==◌, true, Option, Some, None, IfSome, IfOk, IfErr, Result, Ok, Err}
use Rattle.std.specs.Io.KnownBytes.{Consumes, IsAtEnd, Keeps}
use Rattle.std.proofs.KnownBytes.{Consumes-kept, Consumes-trans, Consumes-whole}
use Rattle.std.proofs.lemmas.Option.{IfSome_then}
use Rattle.std.proofs.lemmas.Grind.{common_steps}
use Rattle.zone_name.specs.Common.{Labels}
use Rattle.zone_rdata.specs.declared.fault.Fault.{Fault}
use Rattle.zone_rdata.specs.declared.fault.Fault.TheVariants.{InputTooLong, UnknownType}
use Rattle.zone_rdata.specs.declared.fault.Place.{Place}
use Rattle.zone_rdata.specs.declared.fault.Place.TheVariants.{Whole}
use Rattle.zone_rdata.specs.declared.fault.Stop.{Stop}
use Rattle.zone_rdata.specs.declared.fault.Stop.TheVariants.{Refused, Read, Write, Memory}
use Rattle.zone_set.specs.Zone.{Zone}
use Rattle.zone_print.specs.Canonical.{text_limit}
use Rattle.zone_print.specs.Device.{Device, WorksOn}
use Rattle.zone_engine.specs.Input.{transfer}
use Rattle.zone_engine.specs.Normalise.{IsOfBytes, IsOfReading}
use Rattle.zone_engine.specs.Reading.{ConsumesAtMost, IsFailedRead, ReadsToEnd, ReadsWhole, StopsReading, TellsRead}
use Rattle.zone_engine.specs.Refusal.{IfRefused, IsRefusal}
use Rattle.zone_files.specs.Loading.Reading.{IsRefusalOf, IsReportedSource, ReadsSource, StopsReadingSource}
use Rattle.zone_files.specs.Loading.Report.{IsReported, of_file}
use Rattle.zone_files.specs.Presentation.{PresentationDenotes, Source, master_file, too_long, zone_transfer}
use Rattle.zone_files.specs.declared.loading.refusal.PresentationRefusal.{PresentationRefusal}

abbrev pub unreported : Stop → PresentationRefusal
unreported stop = record { stop = stop; entry = None }

-- what a stop tells that is no refusal
abbrev pub IsNoRefusal : Stop → Type 0
IsNoRefusal stop = IfRefused stop (λ fault place. ⊥)

none_refused : (known : Option (List ℕ)) → IfSome known (λ octets. Unit {0})
none_refused None = tt
none_refused (Some octets) = tt

module _ (form : List ℕ → Source) (old new : Device) where
  -- a stop that is no refusal
  pub stops_unrefused : (stop : Stop) → IsNoRefusal stop → ConsumesAtMost (text_limit + 1) old new → TellsRead old new stop → StopsReadingSource form old new (unreported stop)
  stops_unrefused (Refused fault place) never few tells = absurd never
  stops_unrefused Read unrefused few tells = record { few = few; fault = none_refused old.octets; whole = tt; tells = tells }
  stops_unrefused Write unrefused few tells = record { few = few; fault = none_refused old.octets; whole = tt; tells = tells }
  stops_unrefused Memory unrefused few tells = record { few = few; fault = none_refused old.octets; whole = tt; tells = tells }

  -- a read failed after others
  pub stops_failed : (mid : Device) (given : List ℕ) (stop : Stop) → Consumes old.octets mid.octets given → length given ≤ text_limit + 1 → WorksOn old mid → Keeps mid.octets new.octets → IsFailedRead mid new stop → StopsReadingSource form old new (unreported stop)
  stops_failed mid given (Refused fault place) consumed few works kept fails = absurd fails
  stops_failed mid given Read consumed few works kept fails = stops_unrefused Read tt (given, few, Consumes-kept _ _ _ given consumed kept) (λ worked. fails (works worked))
  stops_failed mid given Write consumed few works kept fails = absurd fails
  stops_failed mid given Memory consumed few works kept fails = absurd fails

  -- memory was refused
  pub stops_memory : (stop : Stop) → ConsumesAtMost (text_limit + 1) old new → WorksOn old new → stop ≡ Memory → StopsReadingSource form old new (unreported stop)
  stops_memory stop few works is = subst (λ s. StopsReadingSource form old new (unreported s)) (sym is) (stops_unrefused Memory tt few works)

  if_refused : (P : Type 0) (stop : Stop) → P → IfRefused stop (λ fault place. P)
  if_refused P (Refused fault place) h = h
  if_refused P Read h = tt
  if_refused P Write h = tt
  if_refused P Memory h = tt

  of_bytes_tells : (stop : Stop) → IsOfBytes stop → WorksOn old new → TellsRead old new stop
  of_bytes_tells (Refused fault place) is works = works
  of_bytes_tells Read is works = absurd is
  of_bytes_tells Write is works = absurd is
  of_bytes_tells Memory is works = works

  -- what was read to its end is judged
  pub stops_judged : (refusal : PresentationRefusal) → IsOfBytes refusal.stop → ReadsToEnd text_limit old new → IfSome old.octets (λ octets. IsRefusalOf (form octets) refusal) → StopsReadingSource form old new refusal
  stops_judged refusal of end refuses = record { few = end.few; fault = refuses; whole = if_refused (ReadsWhole text_limit old new) refusal.stop (inl end.whole); tells = of_bytes_tells refusal.stop of end.works }

  -- an input of too many octets was read to the first of these
  pub stops_long : (given : List ℕ) → Consumes old.octets new.octets given → length given ≡ text_limit + 1 → WorksOn old new → IfSome old.octets (λ octets. IsRefusalOf (form octets) (unreported (Refused InputTooLong Whole))) → StopsReadingSource form old new (unreported (Refused InputTooLong Whole))
  stops_long given consumed is works fault = record { few = (given, omega (arith, is), consumed); fault = fault; whole = inr (given, is, consumed); tells = works }

pub judged : {T : Type 0} (form : List ℕ → Source) (old new : Device) (r : Result T PresentationRefusal) → ReadsToEnd text_limit old new → IfErr r (λ refusal. IsOfBytes refusal.stop) → IfErr r (λ refusal. IfSome old.octets (λ octets. IsRefusalOf (form octets) refusal)) → ReadsSource form old new r
judged form old new (Ok x) end of refuses = end
judged form old new (Err refusal) end of refuses = stops_judged form old new refusal of end refuses

-- ---- a transfer

transfer_refused : (known : Option (List ℕ)) (stop : Stop) → IfSome known (λ octets. IfRefused stop (IsRefusal (transfer octets))) → IfSome known (λ octets. IsRefusalOf (zone_transfer octets) (unreported stop))
transfer_refused None stop is = tt
transfer_refused (Some octets) (Refused fault place) is = (is, refl)
transfer_refused (Some octets) Read is = tt
transfer_refused (Some octets) Write is = tt
transfer_refused (Some octets) Memory is = tt

pub transfer_stops : (old new : Device) (stop : Stop) → StopsReading text_limit (λ octets. transfer octets) old new stop → StopsReadingSource (λ octets. zone_transfer octets) old new (unreported stop)
transfer_stops old new stop stops = record { few = stops.few; fault = transfer_refused old.octets stop stops.fault; whole = stops.whole; tells = stops.tells }

-- ---- a file that is read in pieces

-- the octets that the reader gave, and what was taken of them
pub record HasFed (Taken : List ℕ → Type 0) (old new : Option (List ℕ)) (count : ℕ) : Type 0 where
  pub given : List ℕ
  pub consumed : Consumes old new given
  pub counted : length given ≡ count
  pub few : count ≤ text_limit + 1
  pub taken : Taken given

pub consumed_none : (a b c : Option (List ℕ)) (given more : List ℕ) → Consumes a b given → Consumes b c more → more ≡ [] → Consumes a c given
consumed_none a b c given more first next none = subst (Consumes a c) (ap (λ os. given ++ os) none ∙ append-nil given) (Consumes-trans a b c given more first next)

pub no_octets : (octets : List ℕ) → (length octets == 0) ≡ true → octets ≡ []
no_octets octets none = grind (arith, common_steps)

pub too_many : (origin : Labels) (old new : Option (List ℕ)) (given : List ℕ) → Consumes old new given → text_limit < length given → IfSome old (λ octets. IsRefusalOf (master_file origin octets) (unreported (Refused InputTooLong Whole)))
too_many origin None new given consumed long = tt
too_many origin (Some octets) new given consumed long =
    let over : text_limit < length octets = grind (arith, length-append) in
    of_file InputTooLong Whole (too_long over) (λ same. let never : InputTooLong ≡ UnknownType = same in cc)

pub of_reading : (stop : Stop) → IsOfBytes stop → IsOfReading stop
of_reading (Refused fault place) is = tt
of_reading Read is = tt
of_reading Write is = absurd is
of_reading Memory is = tt

pub failed_is_of_reading : (old new : Device) (stop : Stop) → IsFailedRead old new stop → IsOfReading stop
failed_is_of_reading old new (Refused fault place) is = tt
failed_is_of_reading old new Read is = tt
failed_is_of_reading old new Write is = absurd is
failed_is_of_reading old new Memory is = tt
