-- How the faults of files are found, one after another.
use Rattle.std.specs.Prelude.{◌≡◌, ℕ, suc, List, [], ◌∷◌, ◌++◌, Option, Some, None, option_map}
use Rattle.zone_faults.specs.Checking.{FaultsWithout, IsFirst, MainFile, main_file}
use Rattle.zone_faults.specs.declared.finding.CheckEnd.{CheckEnd}
use Rattle.zone_faults.specs.declared.finding.CheckEnd.TheVariants as ends
use Rattle.zone_faults.specs.declared.finding.FaultsSoFar.{FaultsSoFar}
use Rattle.zone_faults.specs.declared.finding.Main.{Main}
use Rattle.zone_faults.specs.declared.found_fault.FoundFault.{FoundFault}

abbrev pub main_of : Main → MainFile
main_of main =
    main_file (option_map (λ folder. folder.now) main.directory) main.name.now main.origin.now

-- a fault was added: it is the last one, or its line is one of those that are taken out
abbrev pub AddsFault : FoundFault → FaultsSoFar → FaultsSoFar → Option CheckEnd → Type 0
AddsFault fault old new None =
    (line : ℕ) × (fault.line ≡ Some line) × (new.faults.items ≡ old.faults.items ++ fault ∷ [])
    × (new.lines.items ≡ old.lines.items ++ line ∷ [])
AddsFault fault old new (Some ending) =
    (fault.line ≡ None) × (new.faults.items ≡ old.faults.items ++ fault ∷ [])
    × (ending ≡ ends.Last)

-- one more fault was found, of an entry that is taken out from here on
pub record FindsOne (main : MainFile) (old new : FaultsSoFar) : Type 0 where
  pub fault : FoundFault
  pub line : ℕ
  pub is : IsFirst main old.lines.items fault
  pub at : fault.line ≡ Some line
  pub faults : new.faults.items ≡ old.faults.items ++ fault ∷ []
  pub lines : new.lines.items ≡ old.lines.items ++ line ∷ []

-- the faults that follow were found, and there is no further one
pub record EndsWith (main : MainFile) (old : FaultsSoFar) (faults : List FoundFault)
    (ending : CheckEnd) : Type 0 where
  pub others : List FoundFault
  pub are : (most : ℕ) → FaultsWithout main (suc most) old.lines.items others ending
  pub all : faults ≡ old.faults.items ++ others
