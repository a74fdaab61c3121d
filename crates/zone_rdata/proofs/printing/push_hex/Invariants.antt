use Rattle.zone_rdata.proofs.Common.{length, Took}
use Rattle.zone_rdata.proofs.Texts.FieldTexts.{HaveDigits}
use Rattle.zone_rdata.proofs.printing.push_hex.Given as goal

abbrev pub invariant-loop-rest : goal.invariant-loop-rest
invariant-loop-rest g l = Took g.S.Sink.takes l.fn.out l.out (HaveDigits l.octets l.rest)

abbrev pub decreases-loop-rest : goal.decreases-loop-rest
decreases-loop-rest g l = length l.rest
