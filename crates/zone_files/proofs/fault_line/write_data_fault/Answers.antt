use Rattle.std.proofs.Common.{refl, ◌≡◌, ◌++◌}
use Rattle.zone_rdata.specs.FaultTable.{fault_row}
use Rattle.zone_rdata.specs.declared.fault.Fault.TheVariants as faults
use Rattle.type_data.specs.FaultText.{fault_text}
use Rattle.zone_engine.proofs.Lines.{part_of_line_on_err, this_line_on_ok}
use Rattle.zone_files.proofs.Pieces.{data_is}
use Rattle.zone_files.specs.FaultLine.{data_fault_line, fault_place_text, row_head}
use Rattle.zone_files.specs.Machine.Told.{told_text}
use Rattle.zone_files.proofs.fault_line.write_data_fault.Given as given
use Rattle.zone_files.proofs.fault_line.write_data_fault.Goals as goal
use Rattle.zone_files.proofs.fault_line.write_data_fault.Goals.{After-write_told}

told : (g : given.Over) (c : After-write_told g) → c.args.words.now ++ told_text c.of_row-head.result c.place_pieces-place.result c.of_entry-detail.result ≡ c.args.words.now ++ data_fault_line c.args.refusal.now (fault_place_text c.args.place)
told g c = data_is c.args.words.now _ _ _ (row_head (fault_row faults.BadRdata)) (fault_place_text c.args.place) c.args.refusal.now.mnemonic.now c.args.refusal.now.field.now (fault_text c.args.refusal.now.fault) (rw (c.of_row-head.ensures, c.format.ensures.text, c.number.ensures, c.name.ensures) refl) c.place_pieces-place.ensures (rw (c.of_entry-detail.ensures, c.text.ensures) refl)

pub returns-clause-written : goal.returns-clause-written
returns-clause-written g c = this_line_on_ok c.write_told.result _ _ (g.W.OctetWriter.state c.args.writer.now) (g.W.OctetWriter.state c.write_told.new.writer) (told g (goal.at.returns-clause-written g c).After-write_told) c.write_told.ensures.written

pub returns-clause-part : goal.returns-clause-part
returns-clause-part g c = part_of_line_on_err c.write_told.result _ _ (g.W.OctetWriter.state c.args.writer.now) (g.W.OctetWriter.state c.write_told.new.writer) (told g (goal.at.returns-clause-part g c).After-write_told) c.write_told.ensures.part
