use Rattle.zone_rdata.proofs.Common.{take, ReadsTime}
use Rattle.zone_rdata.proofs.time.seconds_of_any.Given as goal

abbrev pub invariant-loop-octet : goal.invariant-loop-octet
invariant-loop-octet l = ReadsTime (take l.octet-index l.text) l.total l.number
