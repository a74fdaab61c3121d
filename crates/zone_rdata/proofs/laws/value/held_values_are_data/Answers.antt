use Rattle.zone_rdata.proofs.Octets.Layouts.{held_data}
use Rattle.zone_rdata.proofs.laws.value.held_values_are_data.Goals as goal

pub returns : goal.returns
returns c = held_data
