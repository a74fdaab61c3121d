-- Of a source that is refused one refusal is reported.
use Rattle.std.proofs.Common.{◌≡◌, ℕ, List, ◌∷◌, refl, sym, ap, ◌∙◌}
use Rattle.std.specs.Prelude.{Option, Some, None}
use Rattle.zone_name.specs.Common.{Labels}
use Rattle.zone_rdata.specs.declared.fault.Fault.{Fault}
use Rattle.zone_rdata.specs.declared.fault.Fault.TheVariants.{UnknownType}
use Rattle.zone_rdata.specs.declared.fault.Place.{Place}
use Rattle.zone_rdata.specs.declared.fault.Place.TheVariants.{Line}
use Rattle.zone_words.specs.Rewriting.{Refused}
use Rattle.zone_files.proofs.Forms.{OneRewriting}
use Rattle.zone_files.specs.Loading.Reading.{IsReportedSource}
use Rattle.zone_files.specs.Loading.Report.{IsFirstWithoutData, IsReported, of_data, of_file}
use Rattle.zone_files.specs.Presentation.{IsRefusedSource, IsSourceRefusal, RefusesPresentation, Source, master_file, zone_transfer}

reported_refused : (origin : Labels) (octets : List ℕ) (fault : Fault) (place : Place) (entry : Option Refused) → IsReported origin octets fault place entry → IsRefusedSource (master_file origin octets)
reported_refused origin octets _ _ _ (of_data entry first refuses) = (UnknownType, Line entry.line, refuses)
reported_refused origin octets _ _ _ (of_file fault place refuses other) = (fault, place, refuses)

pub report_refuses : (source : Source) (fault : Fault) (place : Place) (entry : Option Refused) → IsReportedSource source fault place entry → IsRefusedSource source
report_refuses (master_file origin octets) fault place entry report = reported_refused origin octets fault place entry report
report_refuses (zone_transfer octets) fault place entry report = (fault, place, report.0)

abbrev pub OneFault : Type 0
OneFault = (source : Source) (fault other : Fault) (place elsewhere : Place) → IsSourceRefusal source fault place → IsSourceRefusal source other elsewhere → (fault ≡ other) × (place ≡ elsewhere)

module _ (one : OneRewriting) (once : OneFault) where
  first_same : (origin : Labels) (octets : List ℕ) (entry other : Refused) → IsFirstWithoutData origin octets entry → IsFirstWithoutData origin octets other → entry ≡ other
  first_same origin octets entry other a b =
      let same : entry ∷ a.others ≡ other ∷ b.others = (one origin octets a.generic b.generic (entry ∷ a.others) (other ∷ b.others) a.rewriting b.rewriting).1 in cc

  one_of_files : (origin : Labels) (octets : List ℕ) (fault other : Fault) (place elsewhere : Place) (entry others : Option Refused) → IsReported origin octets fault place entry → IsReported origin octets other elsewhere others → (fault ≡ other) × (place ≡ elsewhere) × (entry ≡ others)
  one_of_files origin octets _ _ _ _ _ _ (of_data entry first refuses) (of_data other first' refuses') =
      let same : entry ≡ other = first_same origin octets entry other first first' in (refl, ap (λ (e : Refused). Line e.line) same, ap Some same)
  one_of_files origin octets _ _ _ _ _ _ (of_data entry first refuses) (of_file fault place refuses' unlike) =
      let same = once (master_file origin octets) UnknownType fault (Line entry.line) place refuses refuses' in absurd (unlike (sym same.0) entry first (sym same.1))
  one_of_files origin octets _ _ _ _ _ _ (of_file fault place refuses unlike) (of_data entry first refuses') =
      let same = once (master_file origin octets) fault UnknownType place (Line entry.line) refuses refuses' in absurd (unlike same.0 entry first same.1)
  one_of_files origin octets _ _ _ _ _ _ (of_file fault place refuses unlike) (of_file other elsewhere refuses' unlike') =
      let same = once (master_file origin octets) fault other place elsewhere refuses refuses' in (same.0, same.1, refl)

  pub one_report : (source : Source) (fault other : Fault) (place elsewhere : Place) (entry others : Option Refused) → IsReportedSource source fault place entry → IsReportedSource source other elsewhere others → (fault ≡ other) × (place ≡ elsewhere) × (entry ≡ others)
  one_report (master_file origin octets) fault other place elsewhere entry others a b = one_of_files origin octets fault other place elsewhere entry others a b
  one_report (zone_transfer octets) fault other place elsewhere entry others a b =
      let same = once (zone_transfer octets) fault other place elsewhere a.0 b.0 in (same.0, same.1, a.1 ∙ sym b.1)
