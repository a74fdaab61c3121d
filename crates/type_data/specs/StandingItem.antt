-- Items that stand on a line of a master file as they are (RFC 1035 5.1).
use Rattle.std.specs.Prelude.{◌≡◌, ℕ, List, true, ⊤}
use Rattle.zone_name.specs.Spelling.{Written, written_text}
use Rattle.zone_rdata.specs.Item.{RawItem}
use Rattle.zone_rdata.specs.Item as raw
use Rattle.zone_rdata.specs.Strings.{StandsInQuotes}
use Rattle.zone_text.specs.Tokens.{IsToken, bare}
use Rattle.type_data.specs.DataItem.{TouchingItem}

-- a text that is one bare item
pub record IsBareText (text : List ℕ) : Type 0 where
  pub units : List Written
  pub is : IsToken (bare units)
  pub spelt : text ≡ written_text units

-- an item that stands on a line as it is
abbrev pub Stands : RawItem → Type 0
Stands (raw.bare text) = IsBareText text
Stands (raw.quoted text) = StandsInQuotes text

abbrev pub IsQuoted : RawItem → Type 0
IsQuoted (raw.bare text) = ⊥
IsQuoted (raw.quoted text) = ⊤

-- it stands so, and in quotes if it touches the item before it
pub record StandsBehind (i : TouchingItem) : Type 0 where
  pub stands : Stands i.item
  pub parted : i.touches ≡ true → IsQuoted i.item
