use Rattle.type_data.proofs.Common.{length}
use Rattle.type_data.proofs.UnescapedTexts.{HaveWritten}
use Rattle.type_data.proofs.unescaped.push_unescaped.Given as goal

abbrev pub invariant-loop-octet : goal.invariant-loop-octet
invariant-loop-octet l = HaveWritten l.fn.text l.rest l.fn.out.items l.out.items

abbrev pub decreases-loop-octet : goal.decreases-loop-octet
decreases-loop-octet l = length l.rest
