use Rattle.std.proofs.Common.{codes, refl, ◌≡◌, ◌++◌, ◌∙◌}
use Rattle.zone_engine.proofs.Lines.{part_of_line_on_err, this_line_on_ok}
use Rattle.zone_files.proofs.Pieces.{placed_is}
use Rattle.zone_rdata.specs.FaultTable.{fault_row}
use Rattle.zone_rdata.specs.declared.fault.Fault.TheVariants as faults
use Rattle.type_data.specs.FaultText.{fault_text}
use Rattle.zone_files.specs.FaultLine.{entry_text, row_head}
use Rattle.zone_files.specs.PlacedLine.{placed_text}
use Rattle.zone_files.specs.Machine.Told.{detail_of, head_of}
use Rattle.zone_files.proofs.placed_fault.write_data.Given as given
use Rattle.zone_files.proofs.placed_fault.write_data.Goals as goal
use Rattle.zone_files.proofs.placed_fault.write_data.Goals.{After-write_line}

told : (g : given.Over) (c : After-write_line g) → placed_text (entry_text c.args.place) (head_of c.of_row-head.result) c.args.before.now (detail_of c.of_entry-detail.result) c.args.behind.now ≡ placed_text (entry_text c.args.place) (row_head (fault_row faults.BadRdata)) c.args.before.now (c.args.entry.now.mnemonic.now ++ codes ", " ++ c.args.entry.now.field.now ++ codes ": " ++ fault_text c.args.entry.now.fault) c.args.behind.now
told g c = placed_is (entry_text c.args.place) _ (row_head (fault_row faults.BadRdata)) c.args.before.now _ (c.args.entry.now.mnemonic.now ++ codes ", " ++ c.args.entry.now.field.now ++ codes ": " ++ fault_text c.args.entry.now.fault) c.args.behind.now (rw (c.of_row-head.ensures, c.format.ensures.text, c.number.ensures, c.name.ensures) refl) (rw (c.of_entry-detail.ensures, c.text.ensures) refl)

pub returns-clause-written : goal.returns-clause-written
returns-clause-written g c = this_line_on_ok c.write_line.result _ _ (g.W.OctetWriter.state c.args.writer.now) (g.W.OctetWriter.state c.write_line.new.writer) (told g (goal.at.returns-clause-written g c).After-write_line) c.write_line.ensures.written

pub returns-clause-part : goal.returns-clause-part
returns-clause-part g c = part_of_line_on_err c.write_line.result _ _ (g.W.OctetWriter.state c.args.writer.now) (g.W.OctetWriter.state c.write_line.new.writer) (told g (goal.at.returns-clause-part g c).After-write_line) c.write_line.ensures.part
