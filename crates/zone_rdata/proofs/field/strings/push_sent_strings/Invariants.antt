use Rattle.zone_rdata.proofs.Common.{length}
use Rattle.zone_rdata.proofs.Fields.Strings.{PushedStrings}
use Rattle.zone_rdata.proofs.field.strings.push_sent_strings.Given as goal

abbrev pub invariant-loop-canonical : goal.invariant-loop-canonical
invariant-loop-canonical l = PushedStrings l.octets l.rest l.fn.canonical.items l.canonical.items

abbrev pub decreases-loop-canonical : goal.decreases-loop-canonical
decreases-loop-canonical l = length l.rest
