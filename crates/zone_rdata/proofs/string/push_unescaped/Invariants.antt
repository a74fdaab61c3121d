use Rattle.zone_rdata.proofs.Common.{length, raw}
use Rattle.zone_rdata.proofs.Strings.StringSteps.{HasRead}
use Rattle.zone_rdata.proofs.string.push_unescaped.Given as goal

abbrev pub invariant-loop-octet : goal.invariant-loop-octet
invariant-loop-octet l = HasRead (raw l.fn.item) l.octets.items l.rest

abbrev pub decreases-loop-octet : goal.decreases-loop-octet
decreases-loop-octet l = length l.rest
