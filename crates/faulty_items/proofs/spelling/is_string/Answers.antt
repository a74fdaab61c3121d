use Rattle.zone_rdata.specs.Item.{raw}
use Rattle.faulty_items.proofs.SpeltValues.{no_string}
use Rattle.faulty_items.proofs.spelling.is_string.Goals as goal

pub returns-in-Fault-clause-no : goal.returns-in-Fault-clause-no
returns-in-Fault-clause-no c = λ no string spelt.
    no_string (raw c.args.item) c.push_string.result c.in-Err.narrow c.from.result c.in-Fault.field-0 c.in-Err.is c.from.ensures c.in-Fault.is c.push_string.ensures.fault string spelt
