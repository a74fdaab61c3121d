-- Why a file name gives no name of a file.
use Rattle.std.specs.Prelude.{ℕ, List, Option}
use Rattle.zone_name.specs.Common.{NothingIs}
use Rattle.zone_files.specs.FileName.{NamesFile}
use Rattle.zone_files.specs.declared.fault.ExpansionFault.TheVariants as faults
use Rattle.zone_files.specs.declared.fault.ExpansionFailing.{ExpansionFailing}
use Rattle.zone_files.specs.declared.fault.ExpansionFailing.TheVariants.{Fault, Memory}

-- it denotes no file below the directory, or memory was refused
abbrev pub RefusesName : Option (List ℕ) → List ℕ → ExpansionFailing → Type 0
RefusesName directory file (Fault faults.BadFileName) = NothingIs (NamesFile directory file)
RefusesName directory file (Fault _) = ⊥
RefusesName directory file Memory = Unit {0}
