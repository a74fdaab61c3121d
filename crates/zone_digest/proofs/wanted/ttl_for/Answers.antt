-- The records that were found are the ZONEMD records at the apex, and the first record is the SOA.
use Rattle.zone_rdata.specs.Lent.{record_of}
use Rattle.zone_digest.specs.Wanted.{of_soa, of_zonemd}
use Rattle.zone_digest.proofs.Zonemds.{first_found, first_is, none_of_none}
use Rattle.zone_digest.proofs.wanted.ttl_for.Goals as goal

pub returns-in-Some-clause-ttl : goal.returns-in-Some-clause-ttl
returns-in-Some-clause-ttl c = of_zonemd (record_of c.in-Some.zonemd.now) (first_found _ c.args.found.now c.in-Some.zonemd.now c.requires (c.in-Some.ensures.value))

pub returns-in-None-clause-ttl : goal.returns-in-None-clause-ttl
returns-in-None-clause-ttl c =
    let own = first_is c.args.zone.now c.soa_of.ensures.zone (record_of c.soa_of.result) c.soa_of.ensures.first.0 c.soa_of.ensures.first.1 in
    of_soa (record_of c.soa_of.result) own.1 own.0 (none_of_none c.args.zone.now c.args.found.now c.requires (c.in-None.ensures.value))
