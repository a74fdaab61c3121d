use Rattle.zone_wire.proofs.Names.Walking.{name_verdict}
use Rattle.zone_wire.proofs.laws.walk.a_name_or_a_fault.Goals as goal

pub returns : goal.returns
returns c = name_verdict
