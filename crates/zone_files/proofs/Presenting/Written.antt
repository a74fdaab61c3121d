-- From the zone of a source to what is written of it.
use Rattle.std.proofs.Common.{◌≡◌, ◌≢◌, ℕ, ◌<◌, ◌≤◌, ◌-◌, ◌^◌, List, length, min, inl, inr, refl, arith}
use Rattle.std.specs.Prelude.{Option, Some, None, IfSome}
use Rattle.std.specs.Io.KnownBytes.{Appends, Keeps}
use Rattle.std.proofs.KnownBytes.{Keeps-refl}
use Rattle.std.proofs.lemmas.Option.{IfSome_then}
use Rattle.zone_rdata.specs.declared.fault.Fault.{Fault}
use Rattle.zone_rdata.specs.declared.fault.Place.{Place}
use Rattle.zone_rdata.specs.declared.fault.Stop.{Stop}
use Rattle.zone_rdata.specs.declared.fault.Stop.TheVariants.{Refused, Read, Write, Memory}
use Rattle.zone_set.specs.Zone.{Zone}
use Rattle.zone_print.specs.Canonical.{canon, text_limit}
use Rattle.zone_print.specs.Device.{Device}
use Rattle.zone_print.specs.Writing.{AppendsPart, StopsPush, StopsWrite, large, memory, write}
use Rattle.zone_engine.specs.Normalise.{IsOfReading}
use Rattle.zone_engine.specs.Reading.{ReadsToEnd}
use Rattle.zone_files.specs.Loading.Reading.{StopsReadingSource}
use Rattle.zone_files.specs.Normalise.{NormalisesSource, NormalisesSourceTo, StopsNormaliseSource, WritesSourcePrefix}
use Rattle.zone_files.specs.Presentation.{Source, SourceDenotes}
use Rattle.zone_files.proofs.Presenting.Readers.{stops_unrefused, unreported}

-- a stop of reading leaves the writer as it was
pub stops_unwritten : (form : List ℕ → Source) (reader writer : Device) (stop : Stop) → IsOfReading stop → StopsNormaliseSource form reader writer writer stop
stops_unwritten form reader writer (Refused fault place) is = record { nothing = Keeps-refl writer.octets; prefix = kept reader.octets; tells = λ works. works }
  where
    kept : (known : Option (List ℕ)) → IfSome known (λ octets. WritesSourcePrefix (form octets) writer.octets writer.octets)
    kept None = tt
    kept (Some octets) = inl (Keeps-refl writer.octets)
stops_unwritten form reader writer Read is = record { nothing = Keeps-refl writer.octets; prefix = kept reader.octets; tells = λ works. works }
  where
    kept : (known : Option (List ℕ)) → IfSome known (λ octets. WritesSourcePrefix (form octets) writer.octets writer.octets)
    kept None = tt
    kept (Some octets) = inl (Keeps-refl writer.octets)
stops_unwritten form reader writer Write is = absurd is
stops_unwritten form reader writer Memory is = record { nothing = tt; prefix = kept reader.octets; tells = λ works. works }
  where
    kept : (known : Option (List ℕ)) → IfSome known (λ octets. WritesSourcePrefix (form octets) writer.octets writer.octets)
    kept None = tt
    kept (Some octets) = inl (Keeps-refl writer.octets)

module _ (form : List ℕ → Source) (reader reader' old new : Device) (z : Zone) (denotes : IfSome reader.octets (λ octets. SourceDenotes (form octets) z)) (short : length (canon z) ≤ text_limit) where
  pub stops_writing : (stop : Stop) → StopsWrite text_limit (canon z) old new stop → StopsNormaliseSource form reader old new stop
  stops_writing _ (large long left) = absurd (omega (arith, long, short))
  stops_writing _ (memory few part works) = record { nothing = tt; prefix = IfSome_then _ denotes (λ octets d. inr (z, d, part)); tells = works }
  stops_writing _ (write few part fails) = record { nothing = tt; prefix = IfSome_then _ denotes (λ octets d. inr (z, d, part)); tells = fails }

  pub stops_when_read : ReadsToEnd text_limit reader reader' → (stop : Stop) → StopsWrite text_limit (canon z) old new stop → StopsReadingSource form reader reader' (unreported stop)
  stops_when_read end _ (large long left) = absurd (omega (arith, long, short))
  stops_when_read end _ (memory few part works) = stops_unrefused form reader reader' Memory tt end.few end.works
  stops_when_read end _ (write few part fails) = stops_unrefused form reader reader' Write tt end.few end.works

  module _ (count : ℕ) (written : Appends old.octets new.octets (canon z)) (counted : count ≡ min (length z.records) (2 ^ 64 - 1)) where
    normalised : (octets : List ℕ) → SourceDenotes (form octets) z → NormalisesSource (form octets) old.octets new.octets count
    normalised octets d = record { zone = z; denotes = d; written = written; counted = counted }

    pub normalises : IfSome reader.octets (λ octets. NormalisesSource (form octets) old.octets new.octets count)
    normalises = IfSome_then _ denotes normalised

-- a text that is short is refused for want of memory alone
pub pushing_memory : (text : List ℕ) (stop : Stop) → length text ≤ text_limit → StopsPush text_limit text stop → stop ≡ Memory
pushing_memory text _ short (large long) = absurd (omega (arith, long, short))
pushing_memory text _ short memory = refl
