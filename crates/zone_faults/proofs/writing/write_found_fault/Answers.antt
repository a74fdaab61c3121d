use Rattle.std.proofs.Common.{refl}
use Rattle.zone_engine.proofs.Lines.{part_of_line_on_err}
use Rattle.zone_faults.proofs.FoundLines.{placed_is}
use Rattle.zone_faults.proofs.writing.write_found_fault.Goals as goal

pub returns-in-Some-clause-part : goal.returns-in-Some-clause-part
returns-in-Some-clause-part g c =
    part_of_line_on_err c.write_placed_fault.result _ _ (g.W.OctetWriter.state c.args.writer.now) (g.W.OctetWriter.state c.write_placed_fault.new.writer)
    (placed_is c.args.found.now c.in-Some.place c.place.result _ _ c.in-Some.is c.place.ensures refl refl) c.write_placed_fault.ensures.part
