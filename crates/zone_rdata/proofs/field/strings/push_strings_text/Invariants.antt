use Rattle.zone_rdata.proofs.Common.{length, Took}
use Rattle.zone_rdata.proofs.Texts.FieldTexts.{HaveQuoted}
use Rattle.zone_rdata.proofs.field.strings.push_strings_text.Given as goal

abbrev pub invariant-loop-rest : goal.invariant-loop-rest
invariant-loop-rest g l = Took g.S.Sink.takes l.fn.out l.out (HaveQuoted l.octets l.rest)

abbrev pub decreases-loop-rest : goal.decreases-loop-rest
decreases-loop-rest g l = length l.rest
