use Rattle.std.proofs.Common.{drop, map}
use Rattle.zone_rdata.specs.Item.{raw}
use Rattle.zone_files.proofs.Expansions.Generating.{fault_stated, lines_stated}
use Rattle.zone_files.proofs.expansion.holding.Holding.generate.Goals as goal

pub returns-in_ok-state_last-in-Ok : goal.returns-in_ok-state_last-in-Ok
returns-in_ok-state_last-in-Ok c =
    let n = c.in_ok-state_last-in-Ok.ensures in
    lines_stated c.args.self.now c.state_last.new.self (map raw c.after_first.result.now) (drop 1 (map raw c.args.items.now)) c.in-Ok.lines n.0 c.after_first.ensures c.in-Ok.ensures.stated n.1 n.2

pub returns-in-Err-Fault : goal.returns-in-Err-Fault
returns-in-Err-Fault c = fault_stated c.args.self.now (map raw c.after_first.result.now) (drop 1 (map raw c.args.items.now)) c.in-Err-Fault.fault c.fault_of.result c.after_first.ensures (rw c.in-Err-Fault.field-0-is at c.in-Err-Fault.ensures.fault) c.fault_of.ensures
