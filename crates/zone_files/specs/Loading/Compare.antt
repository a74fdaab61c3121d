-- What comparing two sources answers: that their canonical texts are equal, or the first line at
-- which they differ (this project's own).
use Rattle.std.specs.Prelude.{List, ℕ, Option, IfSome}
use Rattle.zone_set.specs.Zone.{Zone}
use Rattle.zone_print.specs.Canonical.{canon, text_limit}
use Rattle.zone_print.specs.Device.{Device, IsLeft}
use Rattle.zone_engine.specs.Compare.{IsVerdictOnTexts}
use Rattle.zone_engine.specs.Normalise.{IsOfReading}
use Rattle.zone_engine.specs.Reading.{ReadsToEnd}
use Rattle.zone_engine.specs.declared.comparison.Verdict.{Verdict}
use Rattle.zone_engine.specs.declared.comparison.Which.{Which}
use Rattle.zone_engine.specs.declared.comparison.Which.TheVariants.{First, Second}
use Rattle.zone_files.specs.Loading.Reading.{StopsReadingSource}
use Rattle.zone_files.specs.Presentation.{Source, SourceDenotes}
use Rattle.zone_files.specs.declared.loading.refusal.PresentationRefusal.{PresentationRefusal}

-- both sources denote a zone, and this is the verdict on their canonical texts
pub record ComparesSources (first second : Source) (verdict : Verdict) : Type 0 where
  pub zone : Zone
  pub denotes : SourceDenotes first zone
  pub other : Zone
  pub other_denotes : SourceDenotes second other
  pub judged : IsVerdictOnTexts verdict (canon zone) (canon other)

-- known octets denote a zone
abbrev pub IsAcceptedSource : (List ℕ → Source) → Option (List ℕ) → Type 0
IsAcceptedSource form known = IfSome known (λ octets. (z : Zone) × SourceDenotes (form octets) z)

-- Which source stopped a comparison, and why. The first did, and the second was left as it was; or
-- the second did, and the first is accepted and was read to its end.
pub data StopsCompareSources (form other_form : List ℕ → Source)
    (first first' second second' : Device) : Which → PresentationRefusal → Type 0 where
  by_first : (refusal : PresentationRefusal) → IsOfReading refusal.stop
      → StopsReadingSource form first first' refusal → IsLeft second second'
      → StopsCompareSources form other_form first first' second second' First refusal
  by_second : (refusal : PresentationRefusal) → IsOfReading refusal.stop
      → IsAcceptedSource form first.octets → ReadsToEnd text_limit first first'
      → StopsReadingSource other_form second second' refusal
      → StopsCompareSources form other_form first first' second second' Second refusal
