use Rattle.type_data.proofs.Common.{length}
use Rattle.type_data.proofs.OfKinds.Eui.Pairs.{ReadsPairs}
use Rattle.type_data.proofs.kinds.eui.read_pairs.Given as goal

abbrev pub invariant-loop-pair : goal.invariant-loop-pair
invariant-loop-pair l = ReadsPairs l.text l.rest l.fn.out.items l.out.items

abbrev pub decreases-loop-pair : goal.decreases-loop-pair
decreases-loop-pair l = length l.rest
