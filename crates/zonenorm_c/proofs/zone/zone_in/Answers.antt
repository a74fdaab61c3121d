-- the zone that the engine reads, and the fault
use Rattle.zonenorm_c.proofs.zone.zone_in.Goals as goal

pub returns-clause-zone : goal.returns-clause-zone
returns-clause-zone c = rw (← c.with_origin-form.ensures, ← c.octets.ensures) c.accepted_bytes.ensures.zone

pub returns-clause-fault : goal.returns-clause-fault
returns-clause-fault c = rw (← c.with_origin-form.ensures, ← c.octets.ensures) c.accepted_bytes.ensures.fault
