-- At how many octets repeats are looked for.
use Rattle.std.specs.Prelude.{ℕ, ◌+◌, ◌*◌, ◌≤◌, max, List}
use Rattle.zone_rdata.specs.Record.{Record}
use Rattle.zone_set.specs.Bounded.{AreSomeOf, kept_len}

-- different ones among the records take at least so many octets
pub record HasDifferent (records : List Record) (least : ℕ) : Type 0 where
  pub some : List Record
  pub are : AreSomeOf records some
  pub reach : least ≤ kept_len some

-- a mark is at most the first one, or eight times the octets of different records
pub record IsMark (mark : ℕ) (records : List Record) : Type 0 where
  pub some : List Record
  pub are : AreSomeOf records some
  pub reach : mark ≤ max 262144 (8 * kept_len some)

-- and what is kept is at most that and a record more
pub record IsWithinMark (mark : ℕ) (records : List Record) : Type 0 where
  pub marked : IsMark mark records
  pub below : kept_len records ≤ mark + 65799
