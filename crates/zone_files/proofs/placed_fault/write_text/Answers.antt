use Rattle.std.proofs.Common.{refl, ◌≡◌, ◌++◌, ◌∙◌}
use Rattle.zone_rdata.specs.FaultTable.{fault_row}
use Rattle.zone_rdata.specs.StopText.{argument_of}
use Rattle.zone_engine.proofs.Lines.{part_of_line_on_err, this_line_on_ok}
use Rattle.zone_files.proofs.Pieces.{placed_is}
use Rattle.zone_files.specs.FaultLine.{entry_text, row_head}
use Rattle.zone_files.specs.PlacedLine.{placed_text}
use Rattle.zone_files.specs.Machine.Told.{detail_of, head_of}
use Rattle.zone_files.proofs.placed_fault.write_text.Given as given
use Rattle.zone_files.proofs.placed_fault.write_text.Goals as goal
use Rattle.zone_files.proofs.placed_fault.write_text.Goals.{After-write_line}

told : (g : given.Over) (c : After-write_line g) → placed_text (entry_text c.args.place) (head_of c.of_front-head.result) c.args.before.now (detail_of c.of_text-detail.result) c.args.behind.now ≡ placed_text (entry_text c.args.place) (row_head (fault_row c.args.fault.now) ++ argument_of c.args.fault.now) c.args.before.now (fault_row c.args.fault.now).text c.args.behind.now
told g c = placed_is (entry_text c.args.place) _ (row_head (fault_row c.args.fault.now) ++ argument_of c.args.fault.now) c.args.before.now _ (fault_row c.args.fault.now).text c.args.behind.now (c.of_front-head.ensures ∙ c.front_of.ensures) (c.of_text-detail.ensures ∙ c.text.ensures)

pub returns-clause-written : goal.returns-clause-written
returns-clause-written g c = this_line_on_ok c.write_line.result _ _ (g.W.OctetWriter.state c.args.writer.now) (g.W.OctetWriter.state c.write_line.new.writer) (told g (goal.at.returns-clause-written g c).After-write_line) c.write_line.ensures.written

pub returns-clause-part : goal.returns-clause-part
returns-clause-part g c = part_of_line_on_err c.write_line.result _ _ (g.W.OctetWriter.state c.args.writer.now) (g.W.OctetWriter.state c.write_line.new.writer) (told g (goal.at.returns-clause-part g c).After-write_line) c.write_line.ensures.part
