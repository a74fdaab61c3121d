-- What a loader of presentation format keeps between its calls, and how it reports a stop.
use Rattle.std.specs.Prelude.{◌≡◌, ℕ, ◌≤◌, false, Option, Some, None}
use Rattle.zone_rdata.specs.FedSource.{is_finished}
use Rattle.zone_rdata.specs.declared.fault.Fault.TheVariants.{BadRdata, UnknownType}
use Rattle.zone_rdata.specs.declared.fault.Place.TheVariants.{Line}
use Rattle.zone_rdata.specs.declared.fault.Stop.{Stop}
use Rattle.zone_rdata.specs.declared.fault.Stop.TheVariants.{Refused}
use Rattle.zone_words.specs.Rewriter.{RewriterState}
use Rattle.zone_words.specs.declared.refusal.Refusal.{Refusal}
use Rattle.zone_files.specs.declared.loading.refusal.PresentationRefusal.{PresentationRefusal}

-- the rewriter's file goes on, and it was fed no more octets than the loader
pub record IsLoading (rewriter : RewriterState) (fed : ℕ) : Type 0 where
  pub goes_on : is_finished rewriter.status ≡ false
  pub few : rewriter.fed ≤ fed

-- a stop is reported with the first entry that states no data: as bad data where it is an unknown
-- type on the line of that entry
pub data IsReportOf (stop : Stop) (first : Option Refusal) : PresentationRefusal → Type 0 where
  of_entry : (entry : Refusal) → stop ≡ Refused UnknownType (Line entry.line)
      → first ≡ Some entry
      → IsReportOf stop first (record { stop = Refused BadRdata (Line entry.line); entry = Some entry })
  of_stop : ((entry : Refusal) → first ≡ Some entry
      → stop ≡ Refused UnknownType (Line entry.line) → ⊥)
      → IsReportOf stop first (record { stop = stop; entry = None })
