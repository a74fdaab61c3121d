use Rattle.zone_rdata.proofs.Common.{refl}
use Rattle.zone_rdata.proofs.Fields.Name.{none_name}
use Rattle.zone_rdata.proofs.field.name.push_sent_name.Goals as goal

pub returns-in_default-clause-fault : goal.returns-in_default-clause-fault
returns-in_default-clause-fault c = rw c.of.ensures (refl, none_name c.args.octets.now c.in_default.ensures.none)
