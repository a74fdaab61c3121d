use Rattle.zone_rdata.proofs.Common.{length}
use Rattle.zone_rdata.proofs.Octets.Sent.{HasCut}
use Rattle.zone_rdata.proofs.field.name.name_at.Given as goal

abbrev pub invariant-loop-first : goal.invariant-loop-first
invariant-loop-first l = HasCut l.octets l.labels l.rest

abbrev pub decreases-loop-first : goal.decreases-loop-first
decreases-loop-first l = length l.rest
