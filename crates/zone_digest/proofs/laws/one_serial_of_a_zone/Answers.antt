-- The one SOA has it at one place.
use Rattle.zone_digest.proofs.OneWanted.{one_serial}
use Rattle.zone_digest.proofs.laws.one_serial_of_a_zone.Goals as goal

pub returns : goal.returns
returns c = one_serial
