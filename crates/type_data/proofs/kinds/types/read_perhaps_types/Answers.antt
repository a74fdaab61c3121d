use Rattle.type_data.proofs.Common.{IsNonDecreasingBy-from_sort}
use Rattle.type_data.proofs.OfKinds.Types.Items.{types_pushed}
use Rattle.type_data.proofs.kinds.types.read_perhaps_types.Goals as goal

pub push_windows-requires : goal.push_windows-requires
push_windows-requires c = rw (c.as_slice.ensures.value) (IsNonDecreasingBy-from_sort (λ x. x) c.sort_unstable.new.self.items c.sort_unstable.ensures.sorted)

pub returns-clause-states : goal.returns-clause-states
returns-clause-states c = types_pushed _ c.in_ok-numbers.numbers.items c.sort_unstable.new.self.items _ _ c.in_ok-numbers.ensures.numbers c.sort_unstable.ensures.permutation (rw (c.as_slice.ensures.value) at c.in_ok-push_windows.ensures)
