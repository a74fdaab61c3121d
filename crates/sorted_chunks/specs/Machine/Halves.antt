-- The two halves of a chunk that was full.
use Rattle.std.specs.Prelude.{◌≡◌, ℕ, ◌<◌, List, ◌++◌, length, insert}

-- they have the chunk's elements and one more at a place, and neither is empty
pub record AreHalves {X : Type 0} (lower upper chunk : List X) (offset : ℕ)
    (value : X) : Type 0 where
  pub elements : lower ++ upper ≡ insert chunk offset value
  pub lower_some : 0 < length lower
  pub upper_some : 0 < length upper
