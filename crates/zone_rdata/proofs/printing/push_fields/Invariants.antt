use Rattle.zone_rdata.proofs.Common.{Took}
use Rattle.zone_rdata.proofs.Texts.FieldTexts.{HavePrinted}
use Rattle.zone_rdata.proofs.printing.push_fields.Given as goal

abbrev pub invariant-loop-i : goal.invariant-loop-i
invariant-loop-i g l = Took g.S.Sink.takes l.fn.out l.out (HavePrinted l.fields l.octets l.i l.rest)
