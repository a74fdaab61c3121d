use Rattle.type_data.proofs.OfKinds.Hash.Digits.{Reading}
use Rattle.type_data.proofs.kinds.hash.push_octets.Given as goal

abbrev pub invariant-loop-digit : goal.invariant-loop-digit
invariant-loop-digit l = Reading l.text l.fn.out.items l.out.items l.digit-index l.bits l.count
