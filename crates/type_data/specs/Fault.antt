-- What is said of a fault of words, and of octets that are stated and appended.
use Rattle.std.specs.Prelude.{◌≡◌, ℕ, List, ◌++◌, ⊤}
use Rattle.type_data.specs.declared.fault.WordsFailing.{WordsFailing}
use Rattle.type_data.specs.declared.fault.WordsFailing.TheVariants as failings
use Rattle.type_data.specs.declared.fault.WordsFault.{WordsFault}

-- what is said of the fault holds, where it is a fault and not want of memory
abbrev pub IfFault : (WordsFault → Type 0) → WordsFailing → Type 0
IfFault Is (failings.Fault fault) = Is fault
IfFault Is failings.OutOfMemory = ⊤

-- nothing is so, and the fault is this one
abbrev pub NothingStated : {V : Type 0} → WordsFault → (V → Type 0) → WordsFault → Type 0
NothingStated own Stated fault = (fault ≡ own) × ((value : _) → Stated value → ⊥)

-- octets that are stated come after those that are there
pub record AppendsStated (Stated : List ℕ → Type 0) (old new : List ℕ) : Type 0 where
  pub octets : List ℕ
  pub stated : Stated octets
  pub written : new ≡ old ++ octets
