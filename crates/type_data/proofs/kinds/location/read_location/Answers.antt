use Rattle.type_data.proofs.Common.{arith, length, nat_tests, ◌<◌}
use Rattle.type_data.proofs.OfKinds.Location.Once.{no_location}
use Rattle.type_data.proofs.kinds.location.read_location.Goals as goal

pub returns-in_default-clause-fault : goal.returns-in_default-clause-fault
returns-in_default-clause-fault c =
    let some : 0 < length c.args.items.now = grind (arith, nat_tests, c.is_empty.ensures, c.if-is_empty.false) in
    no_location c.args.items.now some c.in_default.ensures.none
