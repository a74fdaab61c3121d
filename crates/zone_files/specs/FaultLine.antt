-- The lines that tell people of faults in files (this project's own). `docs/FAULTS.md` lists the
-- faults.
use Rattle.std.specs.Prelude.{ℕ, List, [], ◌++◌, codes, decimal, Option, Some, None}
use Rattle.zone_rdata.specs.FaultTable.{FaultRow, fault_row}
use Rattle.zone_rdata.specs.StopText.{argument_of}
use Rattle.zone_rdata.specs.declared.fault.Fault.{Fault}
use Rattle.zone_rdata.specs.declared.fault.Fault.TheVariants as faults
use Rattle.type_data.specs.FaultText.{fault_text}
use Rattle.zone_words.specs.declared.refusal.Refusal.{Refusal}
use Rattle.zone_files.specs.ExpansionFault.{expansion_row}
use Rattle.zone_files.specs.declared.fault.ExpansionFault.{ExpansionFault}
use Rattle.zone_files.specs.declared.fault_line.EntryPlace.{EntryPlace}
use Rattle.zone_files.specs.declared.fault_line.FaultPlace.{FaultPlace}
use Rattle.zone_files.specs.declared.fault_line.FaultPlace.TheVariants.{Entry, Input}

-- ` value N` for a line of a `$GENERATE`
abbrev pub value_text : Option ℕ → List ℕ
value_text None = []
value_text (Some value) = codes " value " ++ decimal value

-- `FILE:LINE`, or `FILE:LINE value N`
abbrev pub place_text : List ℕ → ℕ → Option ℕ → List ℕ
place_text name line value = name ++ codes ":" ++ decimal line ++ value_text value

abbrev pub entry_text : EntryPlace → List ℕ
entry_text p = place_text p.name.now p.line p.value

-- where a fault is, behind its name
abbrev pub fault_place_text : FaultPlace → List ℕ
fault_place_text (Entry p) = codes " at " ++ entry_text p
fault_place_text Input = codes " in the input"

-- number and name of a row of a table of faults
abbrev pub row_head : FaultRow → List ℕ
row_head row = codes "F" ++ decimal row.number ++ codes " " ++ row.name

-- `F9 BadRdata at parts/bad.db:3: the data doesn't fit its type`
abbrev pub fault_line : Fault → List ℕ → List ℕ
fault_line fault place =
    row_head (fault_row fault) ++ argument_of fault ++ place ++ codes ": " ++ (fault_row fault).text

-- `F53 BadTemplate at x.zone:2 value 1: the template says nothing for this value`
abbrev pub expansion_line : ExpansionFault → List ℕ → List ℕ
expansion_line fault place =
    row_head (expansion_row fault) ++ place ++ codes ": " ++ (expansion_row fault).text

-- `F9 BadRdata at example.zone:6: RRSIG, signature: not base64`
abbrev pub data_fault_line : Refusal → List ℕ → List ℕ
data_fault_line refusal place =
    row_head (fault_row faults.BadRdata) ++ place ++ codes ": "
    ++ refusal.mnemonic.now ++ codes ", " ++ refusal.field.now ++ codes ": "
    ++ fault_text refusal.fault

-- `example.zone:12: keys.db: can't be read`
abbrev pub unreadable_line : List ℕ → List ℕ → List ℕ
unreadable_line place name = place ++ codes ": " ++ name ++ codes ": can't be read"

-- `example.zone: can't be read`, of a file that the command line names
abbrev pub unreadable_main_line : List ℕ → List ℕ
unreadable_main_line name = name ++ codes ": can't be read"
