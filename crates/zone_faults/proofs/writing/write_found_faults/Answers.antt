use Rattle.std.proofs.Common.{arith}
use Rattle.zone_engine.proofs.Lines.{on_any_err}
use Rattle.zone_print.proofs.Front.{left_less, part_more}
use Rattle.zone_faults.proofs.FoundLines.{next_line}
use Rattle.zone_faults.proofs.writing.write_found_faults.Goals as goal

pub returns-in_err-write_found_fault-clause-part : goal.returns-in_err-write_found_fault-clause-part
returns-in_err-write_found_fault-clause-part g c =
    on_any_err _ _ (part_more _ _ _ _ _ _ _ c.loop-found.invariant.left (next_line c.args.faults.now c.loop-found.found-index c.found-item.result c.found-item.is (omega (arith, c.loop-found-test.true))) c.in_err-write_found_fault.ensures.part)

pub loop-found-preserved : goal.loop-found-preserved
loop-found-preserved g c = record {
  left = left_less _ _ _ _ _ _ _ c.loop-found.invariant.left (next_line c.args.faults.now c.loop-found.found-index c.found-item.result c.found-item.is (omega (arith, c.loop-found-test.true))) c.in_ok-write_found_fault.ensures.written;
  works = λ w. c.in_ok-write_found_fault.ensures.works (c.loop-found.invariant.works w);
}
