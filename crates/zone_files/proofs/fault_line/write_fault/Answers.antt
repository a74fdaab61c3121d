use Rattle.std.proofs.Common.{◌++◌, ◌∙◌}
use Rattle.zone_rdata.specs.FaultTable.{fault_row}
use Rattle.zone_rdata.specs.StopText.{argument_of}
use Rattle.zone_engine.proofs.Lines.{part_of_line_on_err}
use Rattle.zone_files.proofs.Pieces.{told_is}
use Rattle.zone_files.specs.FaultLine.{fault_place_text, row_head}
use Rattle.zone_files.proofs.fault_line.write_fault.Goals as goal

pub returns-clause-part : goal.returns-clause-part
returns-clause-part g c =
    part_of_line_on_err c.write_told.result _ _ (g.W.OctetWriter.state c.args.writer.now) (g.W.OctetWriter.state c.write_told.new.writer)
    (told_is c.args.words.now _ _ _ (row_head (fault_row c.args.fault.now) ++ argument_of c.args.fault.now) (fault_place_text c.args.place) (fault_row c.args.fault.now).text (c.of_front-head.ensures ∙ c.front_of.ensures) c.place_pieces-place.ensures (c.of_text.ensures ∙ c.text.ensures)) c.write_told.ensures.part
