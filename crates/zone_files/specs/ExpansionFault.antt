-- The faults of expansion: number, name and what is wrong (this project's own). Those that the
-- reader of one text has too are rows of its table.
use Rattle.std.specs.Prelude.{codes}
use Rattle.zone_rdata.specs.FaultTable.{FaultRow, fault_row, row}
use Rattle.zone_rdata.specs.declared.fault.Fault.TheVariants as faults
use Rattle.zone_files.specs.declared.fault.ExpansionFault.{ExpansionFault}
use Rattle.zone_files.specs.declared.fault.ExpansionFault.TheVariants as expansion

-- the table of faults of expansion
abbrev pub expansion_row : ExpansionFault → FaultRow
expansion_row expansion.NoOwner = fault_row faults.NoOwner
expansion_row expansion.BadInclude =
    row 47 (codes "BadInclude") (codes "$INCLUDE needs a file name and at most an origin")
expansion_row expansion.BadFileName =
    row 48 (codes "BadFileName") (codes "the file name isn't one below the directory")
expansion_row expansion.TooManyIncludes =
    row 49 (codes "TooManyIncludes") (codes "files include one another too deep or too often")
expansion_row expansion.BadGenerate =
    row 50 (codes "BadGenerate")
    (codes "$GENERATE needs a range, an owner, a type and one item of data")
expansion_row expansion.BadRange =
    row 51 (codes "BadRange") (codes "the range isn't START-STOP or START-STOP/STEP")
expansion_row expansion.TooManyValues =
    row 52 (codes "TooManyValues") (codes "the range has more than 16777216 values")
expansion_row expansion.BadTemplate =
    row 53 (codes "BadTemplate") (codes "the template says nothing for this value")
expansion_row expansion.InputTooLong = fault_row faults.InputTooLong
