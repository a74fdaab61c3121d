use Rattle.zone_rdata.proofs.Common.{length, Took}
use Rattle.zone_rdata.proofs.Strings.UnescapedRuns.{HaveShown}
use Rattle.zone_rdata.proofs.string.push_units.Given as goal

abbrev pub invariant-loop-octet : goal.invariant-loop-octet
invariant-loop-octet g l = Took g.S.Sink.takes l.fn.out l.out (HaveShown l.octets l.rest)

abbrev pub decreases-loop-octet : goal.decreases-loop-octet
decreases-loop-octet g l = length l.rest
