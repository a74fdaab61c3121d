use Rattle.zone_rdata.proofs.Common.{drop}
use Rattle.zone_rdata.proofs.Octets.Taken.{HaveTaken}
use Rattle.zone_rdata.proofs.uncompressed.canonical_of.Given as goal

abbrev pub invariant-loop-field : goal.invariant-loop-field
invariant-loop-field l = HaveTaken l.field-items l.octets (drop l.field-index l.field-items) l.rest l.canonical.items
