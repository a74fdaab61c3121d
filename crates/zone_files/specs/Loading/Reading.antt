-- What reading a source leaves of its reader, and why it stopped (this project's own).
use Rattle.std.specs.Prelude.{◌≡◌, ℕ, ◌+◌, List, Option, None, IfSome, Result, MatchResult, option_map}
use Rattle.zone_rdata.specs.declared.fault.Fault.{Fault}
use Rattle.zone_rdata.specs.declared.fault.Place.{Place}
use Rattle.zone_print.specs.Canonical.{text_limit}
use Rattle.zone_print.specs.Device.{Device}
use Rattle.zone_engine.specs.Input.{transfer}
use Rattle.zone_engine.specs.Reading.{ConsumesAtMost, ReadsToEnd, ReadsWhole, TellsRead}
use Rattle.zone_engine.specs.Refusal.{IfRefused, IsRefusal}
use Rattle.zone_words.specs.Refusal.{refused_of}
use Rattle.zone_words.specs.Rewriting.{Refused}
use Rattle.zone_files.specs.Loading.Report.{IsReported}
use Rattle.zone_files.specs.Presentation.{Source, master_file, zone_transfer}
use Rattle.zone_files.specs.declared.loading.refusal.PresentationRefusal.{PresentationRefusal}
use Rattle.zone_files.specs.declared.loading.source_form.SourceForm.{SourceForm}
use Rattle.zone_files.specs.declared.loading.source_form.SourceForm.TheVariants.{File, Transfer}

-- the source that octets in a form are
abbrev pub source_of : SourceForm → List ℕ → Source
source_of (File origin) octets = master_file origin.now octets
source_of Transfer octets = zone_transfer octets

-- what is reported of a source that is refused; a transfer has no entries
abbrev pub IsReportedSource : Source → Fault → Place → Option Refused → Type 0
IsReportedSource (master_file origin octets) fault place entry =
    IsReported origin octets fault place entry
IsReportedSource (zone_transfer octets) fault place entry =
    IsRefusal (transfer octets) fault place × (entry ≡ None)

-- a refusal is what is reported of the source
abbrev pub IsRefusalOf : Source → PresentationRefusal → Type 0
IsRefusalOf source refusal =
    IfRefused refusal.stop (λ fault place. IsReportedSource source fault place
    (option_map refused_of refusal.entry))

-- What stopped a call that reads a source: at most one octet over the limit was read; a refusal is
-- what is reported of the octets, where they are known, and they were read whole; and `Read` means
-- that the reader failed, any other stop that it works.
pub record StopsReadingSource (form : List ℕ → Source) (old new : Device)
    (refusal : PresentationRefusal) : Type 0 where
  pub few : ConsumesAtMost (text_limit + 1) old new
  pub fault : IfSome old.octets (λ octets. IsRefusalOf (form octets) refusal)
  pub whole : IfRefused refusal.stop (λ fault place. ReadsWhole text_limit old new)
  pub tells : TellsRead old new refusal.stop

-- what a call that reads a source leaves of its reader, by its answer
abbrev pub ReadsSource : {T : Type 0} → (List ℕ → Source) → Device → Device
    → Result T PresentationRefusal → Type 0
ReadsSource form old new answer =
    MatchResult answer (λ x. ReadsToEnd text_limit old new) (StopsReadingSource form old new)
