-- The faults of names among those of an input, and what is said of a fault. That a refusal is one
-- fault is this project's own choice.
use Rattle.std.specs.Prelude.{◌≡◌, ⊤}
use Rattle.zone_name.specs.declared.fault.NameFault.{NameFault}
use Rattle.zone_name.specs.declared.fault.NameFault.TheVariants as names
use Rattle.zone_rdata.specs.declared.fault.Failing.{Failing}
use Rattle.zone_rdata.specs.declared.fault.Failing.TheVariants as failings
use Rattle.zone_rdata.specs.declared.fault.Fault.{Fault}
use Rattle.zone_rdata.specs.declared.fault.Fault.TheVariants.{EmptyLabel, LabelTooLong, NameTooLong, BadEscape, RelativeName}

abbrev pub fault_of : NameFault → Fault
fault_of names.EmptyLabel = EmptyLabel
fault_of names.LabelTooLong = LabelTooLong
fault_of names.NameTooLong = NameTooLong
fault_of names.BadEscape = BadEscape
fault_of names.RelativeName = RelativeName

-- what is said of the fault holds, where it is a fault and not want of memory
abbrev pub IfFault : (Fault → Type 0) → Failing → Type 0
IfFault Is (failings.Fault fault) = Is fault
IfFault Is failings.Memory = ⊤

-- the fault of what states no value
abbrev pub NoValue : {V : Type 0} → Fault → (V → Type 0) → Fault → Type 0
NoValue own Stated fault = (fault ≡ own) × ((value : _) → Stated value → ⊥)
