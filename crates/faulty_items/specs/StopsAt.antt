-- The item of a list at which a reading stops (this project's own): RFC 1035 5.1 says what items
-- state, and not which of them is wrong.
use Rattle.std.specs.Prelude.{◌≡◌, ◌⊎◌, ℕ, suc, List, [], take, slice_get, Option, Some, None}

-- A reading stops at an item: those before it, if there are any, can go on, and with it they can't.
-- It stops at none: all can go on, or there are none.
pub data StopsAt {A : Type 0} (GoesOn : List A → Type 0) (items : List A) : Option A → Type 0 where
  at_item : (i : ℕ) (item : A) → slice_get items i ≡ Some item
      → (i ≡ 0) ⊎ GoesOn (take i items) → (GoesOn (take (suc i) items) → ⊥)
      → StopsAt GoesOn items (Some item)
  at_end : (items ≡ []) ⊎ GoesOn items → StopsAt GoesOn items None
