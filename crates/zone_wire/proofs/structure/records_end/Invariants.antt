use Rattle.zone_wire.proofs.Common.{records_from, run_end_of, ◌-◌, ◌≡◌}
use Rattle.zone_wire.proofs.structure.records_end.Given as goal

abbrev pub invariant-loop : goal.invariant-loop
invariant-loop l = run_end_of (records_from l.message l.fn.count l.fn.offset) ≡ run_end_of (records_from l.message (l.fn.count - l.counter) l.end)
