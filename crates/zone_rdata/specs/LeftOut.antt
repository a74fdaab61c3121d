-- Items of which some that spell strings are left out, after more items than any data can have.
use Rattle.std.specs.Prelude.{◌≡◌, ℕ, ◌≤◌, List, [], ◌∷◌, ◌++◌, length, ◌⊎◌}
use Rattle.zone_rdata.specs.Item.{RawItem}
use Rattle.zone_rdata.specs.Strings.{SpellsString}

-- some of the items are left out, each of which spells a string
abbrev pub LeavesOut : List RawItem → List RawItem → Type 0
LeavesOut [] kept = kept ≡ []
LeavesOut (item ∷ items) kept =
    ((others : List RawItem) × (kept ≡ item ∷ others) × LeavesOut items others)
    ⊎ ((octets : List ℕ) × SpellsString item octets × LeavesOut items kept)

-- the first items are kept, at least n of them, and of those after them some are left out
pub record AreShortened (n : ℕ) (items kept : List RawItem) : Type 0 where
  pub first : List RawItem
  pub more : List RawItem
  pub others : List RawItem
  pub whole : items ≡ first ++ more
  pub are_kept : kept ≡ first ++ others
  pub many : n ≤ length first
  pub out : LeavesOut more others
