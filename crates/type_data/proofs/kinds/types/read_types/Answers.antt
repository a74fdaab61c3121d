use Rattle.type_data.proofs.Common.{FailsPerhapsTypes, FailsTypes, arith, fault_answered, length, map, nat_tests, raw_item, ◌<◌}
use Rattle.type_data.proofs.OfKinds.Types.Items.{types_fail}
use Rattle.type_data.proofs.kinds.types.read_types.Goals as goal

pub returns-clause-fault : goal.returns-clause-fault
returns-clause-fault c =
    let some : 0 < length c.args.items.now = grind (arith, nat_tests, c.is_empty.ensures, c.if-is_empty.false) in
    fault_answered c.read_perhaps_types.result (FailsPerhapsTypes (map raw_item c.args.items.now)) (FailsTypes (map raw_item c.args.items.now)) (types_fail c.args.items.now some) c.read_perhaps_types.ensures.fault
