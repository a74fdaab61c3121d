-- Values up to the end of the data, without a length (RFC 8659 4.1.1, RFC 7553 4.4).
use Rattle.std.specs.Prelude.{◌≡◌, ℕ, List, [], ◌∷◌}
use Rattle.zone_rdata.specs.Item.{RawItem, bare, quoted}
use Rattle.zone_name.specs.Common.{AreOctets}
use Rattle.zone_rdata.specs.Strings.{inside_text, item_text}
use Rattle.type_data.specs.Unescaped.{ComesToBadEscape, Unescaped}
use Rattle.type_data.specs.declared.fault.WordsFault.{WordsFault}
use Rattle.type_data.specs.declared.fault.WordsFault.TheVariants.{BadEscape, NotQuoted}

-- the value of an item, bare or quoted
abbrev pub StatesValue : RawItem → List ℕ → Type 0
StatesValue item octets = Unescaped (item_text item) octets

abbrev pub FailsValue : RawItem → WordsFault → Type 0
FailsValue item fault = (fault ≡ BadEscape) × ComesToBadEscape (item_text item)

-- the value of an item that has to stand in quotes
abbrev pub StatesQuotedValue : RawItem → List ℕ → Type 0
StatesQuotedValue (bare text) octets = ⊥
StatesQuotedValue (quoted text) octets = Unescaped text octets

abbrev pub FailsQuotedValue : RawItem → WordsFault → Type 0
FailsQuotedValue (bare text) fault = fault ≡ NotQuoted
FailsQuotedValue (quoted text) fault = (fault ≡ BadEscape) × ComesToBadEscape text

-- the value in quotes, its octets by themselves or by escapes
abbrev pub PrintsValue : List RawItem → List ℕ → Type 0
PrintsValue items octets = AreOctets octets × (items ≡ quoted (inside_text octets) ∷ [])
