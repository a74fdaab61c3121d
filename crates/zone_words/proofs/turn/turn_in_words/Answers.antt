use Rattle.zone_words.proofs.Common.{given, map, raw, refused_of}
use Rattle.zone_words.proofs.Turns.{fails_there, stated_there}
use Rattle.zone_words.proofs.turn.turn_in_words.Goals as goal

pub returns-in-Ok : goal.returns-in-Ok
returns-in-Ok c words origin before tokens cut there =
    stated_there c.args.entry.now origin before c.args.line tokens c.args.found.now (map raw c.args.items.now) c.args.above.now c.around_type-around.result (map given c.data_items.new.found.items) (record { octets = c.read_data.new.octets; staying = c.data_items.new.staying }) cut there words c.around_type-around.ensures c.in_ok-data_items.ensures.found c.in_ok-data_items.ensures.staying
    (rw (c.deref.ensures.value) at c.in-Ok.ensures.states)

pub returns-in-Err-Fault : goal.returns-in-Err-Fault
returns-in-Err-Fault c words origin before tokens cut there =
    fails_there c.args.entry.now origin before c.args.line tokens c.args.found.now (map raw c.args.items.now) c.args.above.now c.around_type-around.result (map given c.data_items.new.found.items) c.in-Err-Fault.field.now c.in-Err-Fault.fault (refused_of c.refusal.result) cut there words c.around_type-around.ensures c.in_ok-data_items.ensures.found
    (rw (c.deref.ensures.value, c.in-Err-Fault.field-0-is) at c.in-Err-Fault.ensures.fault) (rw (c.in-Err-Fault.field-0-is) at c.refusal.ensures)
