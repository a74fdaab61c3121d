-- The items of an entry that are kept while it is read, one by one.
use Rattle.std.specs.Prelude.{◌≡◌, ◌≤◌, ℕ, List, [], ◌∷◌, ◌++◌, length, ◌⊎◌}
use Rattle.zone_name.specs.Common.{AreOctets}
use Rattle.zone_rdata.specs.Item.{RawItem, bare}
use Rattle.zone_rdata.specs.Strings.{item_text}

-- the text of the item is no longer than a string may be
pub record IsShort (item : RawItem) : Type 0 where
  pub few : length (item_text item) ≤ 255
  pub octets : AreOctets (item_text item)

-- the item comes after those that are kept, or it is a short one after so many
abbrev pub Keeps : RawItem → List RawItem → List RawItem → Type 0
Keeps item old new =
    (new ≡ old ++ item ∷ []) ⊎ ((new ≡ old) × (65552 ≤ length old) × IsShort item)

-- the same of a bare item, where there are octets of it
abbrev pub KeepsBare : List ℕ → List RawItem → List RawItem → Type 0
KeepsBare [] old new = new ≡ old
KeepsBare (c ∷ octets) old new = Keeps (bare (c ∷ octets)) old new
