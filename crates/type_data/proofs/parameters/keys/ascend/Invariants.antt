use Rattle.type_data.proofs.Common.{AscendAbove, drop}
use Rattle.type_data.proofs.parameters.keys.ascend.Given as goal

abbrev pub invariant-loop-number : goal.invariant-loop-number
invariant-loop-number l =
    (AscendAbove l.low (drop l.number-index l.numbers) → AscendAbove 0 l.numbers)
    × (AscendAbove 0 l.numbers → AscendAbove l.low (drop l.number-index l.numbers))
