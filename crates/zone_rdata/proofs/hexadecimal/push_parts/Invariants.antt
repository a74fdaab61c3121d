use Rattle.zone_rdata.proofs.Common.{length}
use Rattle.zone_rdata.proofs.Items.ReadDigits.{HaveRead}
use Rattle.zone_rdata.proofs.hexadecimal.push_parts.Given as goal

abbrev pub invariant-loop-rest : goal.invariant-loop-rest
invariant-loop-rest l = HaveRead l.text l.rest l.fn.out.items l.out.items

abbrev pub decreases-loop-rest : goal.decreases-loop-rest
decreases-loop-rest l = length l.rest
