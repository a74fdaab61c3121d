use Rattle.zone_rdata.proofs.Common.{take, Lacks}
use Rattle.zone_rdata.proofs.address.ipv4.cut_at.Given as goal

abbrev pub invariant-loop-at : goal.invariant-loop-at
invariant-loop-at l = Lacks l.octet (take l.at l.text)
