-- A field that is one character-string, after its length (RFC 1035 3.3). An item spells it by
-- `SpellsString`.
use Rattle.std.specs.Prelude.{ℕ, List, [], ◌∷◌, take}
use Rattle.zone_rdata.specs.Item.{RawItem, quoted}
use Rattle.zone_rdata.specs.Strings.{inside_text}

-- the string at the beginning of octets, by the length before it
abbrev pub string_at : List ℕ → List ℕ
string_at [] = []
string_at (n ∷ octets) = take n octets

-- the item that is printed
abbrev pub string_item : List ℕ → RawItem
string_item octets = quoted (inside_text octets)
