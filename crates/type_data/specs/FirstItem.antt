-- What the first of the items of a field states, where it has one at most.
use Rattle.std.specs.Prelude.{◌≡◌, ℕ, List, [], ◌∷◌}
use Rattle.zone_rdata.specs.Spelling.{RawItem}
use Rattle.type_data.specs.declared.fault.WordsFault.{WordsFault}
use Rattle.type_data.specs.declared.fault.WordsFault.TheVariants.{NothingLeft}

-- the octets that the first item states
abbrev pub FirstStates : (RawItem → List ℕ → Type 0) → List RawItem → List ℕ → Type 0
FirstStates States [] octets = ⊥
FirstStates States (item ∷ items) octets = States item octets

-- no item is left, or the first fails
abbrev pub FirstFails : (RawItem → WordsFault → Type 0) → List RawItem → WordsFault → Type 0
FirstFails Fails [] fault = fault ≡ NothingLeft
FirstFails Fails (item ∷ items) fault = Fails item fault
