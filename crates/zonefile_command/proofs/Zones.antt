-- From opened files, and what was read of them, to the zones of inputs.
use Rattle.std.proofs.Common.{◌≡◌, ℕ, List, refl, subst, sym}
use Rattle.std.specs.Prelude.{Option, IfSome, Some, None, string_bytes}
use Rattle.zone_name.specs.Common.{Labels}
use Rattle.zone_rdata.specs.declared.fault.Stop.TheVariants.{Read}
use Rattle.zone_set.specs.Zone.{Zone}
use Rattle.zone_engine.specs.Input.{InputDenotes, transfer}
use Rattle.zone_files.specs.FilesStopped.{StopsLoading}
use Rattle.zone_files.specs.declared.files.stop.FilesStop.{FilesStop}
use Rattle.zone_files.specs.declared.files.stop.FilesStop.TheVariants.{Input}
use Rattle.zonefile_command.specs.Inputs.{FilesGive, Folder, GivesNone, GivesZone, ReadsInput, StopsInput, StopsTransfer, stopped, unopened}
use Rattle.zonefile_command.specs.declared.order.FileSource.{FileSource}

module _ {S File : Type 0} (folder : Folder S File) (directory : Option (List ℕ)) (source : FileSource) (old new : S) (path : List ℕ) (same : path ≡ string_bytes source.file) where
  pub not_opened : folder.opens_main old path None new → GivesNone folder directory source old new (Input Read)
  not_opened opens = unopened (subst (λ (p : List ℕ). folder.opens_main old p None new) same opens)

  opened : (main : File) (begun : S) → folder.opens_main old path (Some main) begun → folder.opens_main old (string_bytes source.file) (Some main) begun
  opened main begun opens = subst (λ (p : List ℕ). folder.opens_main old p (Some main) begun) same opens

  gives : (main : File) (begun : S) (z : Zone) → folder.opens_main old path (Some main) begun → ReadsInput folder directory path source.origin main begun new z
      → GivesZone folder directory source old new z
  gives main begun z opens reads = record {
    main = main;
    begun = begun;
    opened = opened main begun opens;
    reads = subst (λ (p : List ℕ). ReadsInput folder directory p source.origin main begun new z) same reads;
  }

  gives_none : (main : File) (begun : S) (stop : FilesStop) → folder.opens_main old path (Some main) begun → StopsInput folder directory path source.origin main begun new stop
      → GivesNone folder directory source old new stop
  gives_none main begun stop opens stops = stopped main begun stop (opened main begun opens) (subst (λ (p : List ℕ). StopsInput folder directory p source.origin main begun new stop) same stops)

  pub of_files : (origin : Labels) → source.origin ≡ Some origin → (main : File) (begun : S) (z : Zone) → folder.opens_main old path (Some main) begun
      → FilesGive folder directory path origin main begun new z → GivesZone folder directory source old new z
  of_files origin is main begun z opens loads =
      gives main begun z opens (subst (λ (o : Option Labels). ReadsInput folder directory path o main begun new z) (sym is) loads)

  pub not_of_files : (origin : Labels) → source.origin ≡ Some origin → (main : File) (begun : S) (stop : FilesStop) → folder.opens_main old path (Some main) begun
      → StopsLoading folder.opens folder.device main directory path origin begun new stop → GivesNone folder directory source old new stop
  not_of_files origin is main begun stop opens why =
      gives_none main begun stop opens (subst (λ (o : Option Labels). StopsInput folder directory path o main begun new stop) (sym is) why)

  pub of_transfer : source.origin ≡ None → (main : File) (z : Zone) → folder.opens_main old path (Some main) new
      → IfSome (folder.device main).octets (λ octets. InputDenotes (transfer octets) z) → GivesZone folder directory source old new z
  of_transfer is main z opens denotes =
      gives main new z opens (subst (λ (o : Option Labels). ReadsInput folder directory path o main new new z) (sym is) (refl, denotes))

  pub not_of_transfer : source.origin ≡ None → (main : File) (stop : FilesStop) → folder.opens_main old path (Some main) new
      → StopsTransfer (folder.device main).octets stop → GivesNone folder directory source old new stop
  not_of_transfer is main stop opens stops =
      gives_none main new stop opens (subst (λ (o : Option Labels). StopsInput folder directory path o main new new stop) (sym is) (refl, stops))
