-- What the inputs of a command line denote (this project's own).
use Rattle.std.specs.Prelude.{◌≡◌, ◌≤◌, ℕ, List, length, string_bytes, Option, Some, None, IfSome}
use Rattle.zone_name.specs.Common.{Labels}
use Rattle.zone_rdata.specs.declared.fault.Stop.{Stop}
use Rattle.zone_rdata.specs.declared.fault.Stop.TheVariants.{Read}
use Rattle.zone_set.specs.Zone.{Zone}
use Rattle.zone_print.specs.Canonical.{canon, text_limit}
use Rattle.zone_print.specs.Device.{Device}
use Rattle.zone_engine.specs.Form.{read_as_with}
use Rattle.zone_engine.specs.Input.{InputDenotes, transfer}
use Rattle.zone_engine.specs.Normalise.{IsOfReading}
use Rattle.zone_engine.specs.Refusal.{IfRefused, IsRefusal}
use Rattle.zone_engine.specs.declared.comparison.Which.{Which}
use Rattle.zone_engine.specs.declared.comparison.Which.TheVariants.{First, Second}
use Rattle.zone_files.specs.declared.files.stop.FilesStop.{FilesStop}
use Rattle.zone_files.specs.declared.files.stop.FilesStop.TheVariants as stops
use Rattle.zone_files.specs.ExpandedLoader.{FilesDenote}
use Rattle.zone_files.specs.Expansion.{Files}
use Rattle.zone_files.specs.FilesStopped.{StopsLoading}
use Rattle.zone_files.specs.Reading.{ReadsFiles}
use Rattle.zonefile_command.specs.declared.order.FileSource.{FileSource}

-- what is known of opening files, of the command line and included ones, and of what they give
pub record Folder (S File : Type 0) : Type 1 where
  pub opens_main : S → List ℕ → Option File → S → Type 0
  pub opens : S → List ℕ → Option File → S → Type 0
  pub device : File → Device

abbrev pub folder : {S File : Type 0} → (S → List ℕ → Option File → S → Type 0)
    → (S → List ℕ → Option File → S → Type 0) → (File → Device) → Folder S File
folder opens_main opens device =
    record { opens_main = opens_main; opens = opens; device = device }

-- A master file with the files that it includes denotes the zone, by the octets that were read of each.
abbrev pub FilesGive : {S File : Type 0} → Folder S File → Option (List ℕ) → List ℕ → Labels → File
    → S → S → Zone → Type 0
FilesGive folder directory path origin main old new z =
    (octets : List ℕ) × (tree : Files)
    × ReadsFiles folder.opens folder.device main old new octets tree
    × FilesDenote directory path origin octets tree z

-- The zone of an input: what the command line names was opened, and what it gives denotes the zone as a
-- transfer, or as a master file under its origin, with the files that it includes.
abbrev pub ReadsInput : {S File : Type 0} → Folder S File → Option (List ℕ) → List ℕ → Option Labels
    → File → S → S → Zone → Type 0
ReadsInput folder directory path None main old new z =
    (old ≡ new) × IfSome (folder.device main).octets (λ octets. InputDenotes (transfer octets) z)
ReadsInput folder directory path (Some origin) main old new z =
    FilesGive folder directory path origin main old new z

pub record GivesZone {S File : Type 0} (folder : Folder S File) (directory : Option (List ℕ))
    (source : FileSource) (old new : S) (z : Zone) : Type 0 where
  pub main : File
  pub begun : S
  pub opened : folder.opens_main old (string_bytes source.file) (Some main) begun
  pub reads : ReadsInput folder directory (string_bytes source.file) source.origin main begun new z

-- why what a reader gives as a transfer is none
pub data StopsTransfer (known : Option (List ℕ)) : FilesStop → Type 0 where
  of_reading : (stop : Stop) → IsOfReading stop
      → IfSome known (λ octets. IfRefused stop (IsRefusal (transfer octets)))
      → StopsTransfer known (stops.Input stop)

-- why an input gives no zone, once it was opened
abbrev pub StopsInput : {S File : Type 0} → Folder S File → Option (List ℕ) → List ℕ → Option Labels
    → File → S → S → FilesStop → Type 0
StopsInput folder directory path None main old new stop =
    (old ≡ new) × StopsTransfer (folder.device main).octets stop
StopsInput folder directory path (Some origin) main old new stop =
    StopsLoading folder.opens folder.device main directory path origin old new stop

-- Two inputs give these zones, one after the other.
pub record GiveZones {S File : Type 0} (folder : Folder S File) (directory : Option (List ℕ))
    (first second : FileSource) (old new : S) (z other : Zone) : Type 0 where
  pub between : S
  pub gives : GivesZone folder directory first old between z
  pub gives_other : GivesZone folder directory second between new other

-- why an input gives no zone: it can't be opened, or it is refused or can't be read
pub data GivesNone {S File : Type 0} (folder : Folder S File) (directory : Option (List ℕ))
    (source : FileSource) (old new : S) : FilesStop → Type 0 where
  unopened : folder.opens_main old (string_bytes source.file) None new
      → GivesNone folder directory source old new (stops.Input Read)
  stopped : (main : File) (begun : S) (stop : FilesStop)
      → folder.opens_main old (string_bytes source.file) (Some main) begun
      → StopsInput folder directory (string_bytes source.file) source.origin main begun new stop
      → GivesNone folder directory source old new stop

-- Why two inputs give no zones, and which of them: the first that gives none.
pub data GivesNoneOfTwo {S File : Type 0} (folder : Folder S File) (directory : Option (List ℕ))
    (first second : FileSource) (old new : S) : Which → FilesStop → Type 0 where
  no_first : (stop : FilesStop) → GivesNone folder directory first old new stop
      → GivesNoneOfTwo folder directory first second old new First stop
  no_second : (z : Zone) (between : S) (stop : FilesStop)
      → GivesZone folder directory first old between z
      → GivesNone folder directory second between new stop
      → GivesNoneOfTwo folder directory first second old new Second stop

-- the path of one of two inputs
abbrev pub path_of : FileSource → FileSource → Which → List ℕ
path_of first second First = string_bytes first.file
path_of first second Second = string_bytes second.file
