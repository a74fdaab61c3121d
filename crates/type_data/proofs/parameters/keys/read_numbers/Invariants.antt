use Rattle.type_data.proofs.Common.{flat_map, take, to_be_bytes, w16, ◌++◌, ◌≡◌}
use Rattle.type_data.proofs.parameters.keys.read_numbers.Given as goal

abbrev pub invariant-loop-number : goal.invariant-loop-number
invariant-loop-number l = l.out.items ≡ l.fn.out.items ++ flat_map (to_be_bytes w16) (take l.number-index l.numbers)
