use Rattle.zonefile_command.specs.Inputs.{of_reading}
use Rattle.zonefile_command.proofs.input.zone_of_transfer.Goals as goal

pub returns-clause-none : goal.returns-clause-none
returns-clause-none g c = of_reading c.in-Err.stop c.in-Err.ensures.stopped c.in-Err.ensures.read.fault
