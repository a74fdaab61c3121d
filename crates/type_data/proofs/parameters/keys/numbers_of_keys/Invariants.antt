use Rattle.type_data.proofs.Common.{IsKeyText, length}
use Rattle.type_data.proofs.OfParameters.Lists.{HasListed}
use Rattle.type_data.proofs.parameters.keys.numbers_of_keys.Given as goal

abbrev pub invariant-loop-key : goal.invariant-loop-key
invariant-loop-key l = HasListed IsKeyText l.text l.rest l.numbers.items

abbrev pub decreases-loop-key : goal.decreases-loop-key
decreases-loop-key l = length l.rest
