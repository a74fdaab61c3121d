-- A borrowed record, as contracts see it.
use Rattle.zone_rdata.specs.Record.{Record}
use Rattle.zone_rdata.specs.declared.lent.RrRef.{RrRef}
use Rattle.zone_rdata.specs.declared.lent.PlacedRef.{PlacedRef}
use Rattle.zone_rdata.specs.declared.record.Placed.{Placed}

abbrev pub record_of : RrRef → Record
record_of r =
    record { owner = r.owner; class = r.class; kind = r.kind; ttl = r.ttl; octets = r.rdata.octets }

abbrev pub placed_of : PlacedRef → Placed
placed_of p = record { rr = record_of p.rr; place = p.place }
