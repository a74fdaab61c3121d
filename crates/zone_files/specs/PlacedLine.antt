-- The lines of faults that begin with the place of the entry (this project's own). `docs/FAULTS.md`
-- lists the faults.
use Rattle.std.specs.Prelude.{ℕ, List, ◌++◌, codes, Some, None}
use Rattle.zone_rdata.specs.FaultTable.{fault_row}
use Rattle.zone_rdata.specs.StopText.{argument_of}
use Rattle.zone_rdata.specs.declared.fault.Fault.TheVariants as faults
use Rattle.type_data.specs.FaultText.{fault_text}
use Rattle.zone_files.specs.ExpansionFault.{expansion_row}
use Rattle.zone_files.specs.FaultLine.{row_head}
use Rattle.zone_files.specs.declared.placed_fault.FileFault.{FileFault}
use Rattle.zone_files.specs.declared.placed_fault.FileFault.TheVariants.{Expansion, Text}

-- Number and name of a fault. Of data of a further type that doesn't fit it is `F9 BadRdata`.
abbrev pub found_head : FileFault → List ℕ
found_head (Expansion fault) = row_head (expansion_row fault)
found_head (Text fault None) = row_head (fault_row fault) ++ argument_of fault
found_head (Text fault (Some entry)) = row_head (fault_row faults.BadRdata)

-- what is wrong: of data of a further type, with the type and the field
abbrev pub found_detail : FileFault → List ℕ
found_detail (Expansion fault) = (expansion_row fault).text
found_detail (Text fault None) = (fault_row fault).text
found_detail (Text fault (Some entry)) =
    entry.mnemonic.now ++ codes ", " ++ entry.field.now ++ codes ": " ++ fault_text entry.fault

-- a place, a fault, and what is wrong, with octets before it and behind it
abbrev pub placed_text : (place head before detail behind : List ℕ) → List ℕ
placed_text place head before detail behind =
    place ++ codes ": " ++ head ++ codes ": " ++ before ++ detail ++ behind

-- `parts/bad.db:3: F9 BadRdata: the data doesn't fit its type`
abbrev pub placed_line : List ℕ → FileFault → List ℕ → List ℕ → List ℕ
placed_line place fault before behind =
    placed_text place (found_head fault) before (found_detail fault) behind
