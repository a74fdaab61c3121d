-- The serial of the first record, which is the SOA.
use Rattle.std.proofs.Common.{arith}
use Rattle.zone_rdata.specs.Lent.{record_of}
use Rattle.zone_digest.proofs.SoaNumbers.{serial_number}
use Rattle.zone_digest.proofs.serial.serial_of.Goals as goal

pub returns : goal.returns
returns c octets =
    serial_number c.args.zone.now c.soa_of-soa.ensures.zone (record_of c.soa_of-soa.result) c.soa_of-soa.ensures.first.0 c.soa_of-soa.ensures.first.1
    c.split_at.result.1.now c.in-Some.serial.now c.from_be_bytes.result (grind (arith, c.octets-octets.ensures, c.split_at.ensures.back)) c.in-Some.ensures.cases.same c.from_be_bytes.ensures octets
