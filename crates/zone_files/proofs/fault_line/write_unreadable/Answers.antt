use Rattle.zone_engine.proofs.Lines.{part_of_line_on_err}
use Rattle.zone_files.proofs.Pieces.{unreadable_is}
use Rattle.zone_files.specs.FaultLine.{entry_text}
use Rattle.zone_files.proofs.fault_line.write_unreadable.Goals as goal

pub returns-clause-part : goal.returns-clause-part
returns-clause-part g c =
    part_of_line_on_err c.write_told.result _ _ (g.W.OctetWriter.state c.args.writer.now) (g.W.OctetWriter.state c.write_told.new.writer)
    (unreadable_is _ _ _ (entry_text c.args.place) c.args.name.now c.of_front.ensures (rw c.as_slice.ensures at c.entry_pieces-place.ensures) c.of_unreadable.ensures) c.write_told.ensures.part
