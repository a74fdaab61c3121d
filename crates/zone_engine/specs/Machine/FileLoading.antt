-- What a loader of a master file keeps between its calls.
use Rattle.std.specs.Prelude.{◌≡◌, ℕ, ◌≤◌, false}
use Rattle.zone_rdata.specs.FedSource.{SourceState}
use Rattle.zone_text.specs.TextSource.{FileKept}

-- the source's input goes on, and it was fed no more octets than the loader
pub record IsFileLoader (source : SourceState FileKept) (fed : ℕ) : Type 0 where
  pub goes_on : source.held.finished ≡ false
  pub few : source.held.fed ≤ fed
