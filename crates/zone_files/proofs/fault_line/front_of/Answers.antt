use Rattle.std.proofs.Common.{arith, codes, length-append, ◌++◌, ◌∙◌}
use Rattle.zone_rdata.specs.FaultTable.{fault_row}
use Rattle.zone_rdata.specs.StopText.{argument_of}
use Rattle.zone_files.specs.FaultLine.{row_head}
use Rattle.zone_files.proofs.Pieces.{front_taken, three_behind}
use Rattle.zone_files.proofs.fault_line.front_of.Goals as goal

pub returns : goal.returns
returns c =
    let head = row_head (fault_row c.args.fault.now) ++ argument_of c.args.fault.now in
    let text = (fault_row c.args.fault.now).text in
    front_taken c.args.line.now head (codes " in the input" ++ codes ": " ++ text) _ (c.requires ∙ three_behind head (codes " in the input") (codes ": ") text) (grind (arith, length-append, c.text.ensures))
