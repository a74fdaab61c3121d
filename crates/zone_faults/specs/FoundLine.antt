-- The lines that tell people of every fault of files (this project's own).
use Rattle.std.specs.Prelude.{ℕ, List, [], ◌∷◌, ◌++◌, codes, Option, Some, None, option_map}
use Rattle.std.specs.List.{flat_map}
use Rattle.zone_files.specs.FaultLine.{data_fault_line, expansion_line, fault_line}
use Rattle.zone_files.specs.PlacedLine.{placed_line}
use Rattle.zone_files.specs.declared.placed_fault.FileFault.{FileFault}
use Rattle.zone_files.specs.declared.placed_fault.FileFault.TheVariants.{Expansion, Text}
use Rattle.zone_faults.specs.Checking.{faulty_text}
use Rattle.zone_faults.specs.declared.found_fault.FoundFault.{FoundFault}

-- `F42 NoSoa in the input: the zone has no SOA record`
abbrev pub whole_line : FileFault → List ℕ
whole_line (Expansion fault) = expansion_line fault (codes " in the input")
whole_line (Text fault None) = fault_line fault (codes " in the input")
whole_line (Text fault (Some entry)) = data_fault_line entry (codes " in the input")

-- `parts/bad.db:3: F9 BadRdata: the data doesn't fit its type`
abbrev pub line_at : FileFault → Option (List ℕ) → List ℕ
line_at fault None = whole_line fault
line_at fault (Some place) = placed_line place fault [] []

abbrev pub found_line : FoundFault → List ℕ
found_line found = line_at found.fault (option_map faulty_text found.entry)

-- the lines of faults, each with its line feed
abbrev pub found_lines : List FoundFault → List ℕ
found_lines faults = flat_map (λ found. found_line found ++ 10 ∷ []) faults
