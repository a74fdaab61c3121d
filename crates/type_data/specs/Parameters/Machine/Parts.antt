-- How the code takes parameters apart.
use Rattle.std.specs.Prelude.{◌≡◌, ℕ, ◌<◌, ◌==◌, ◌||◌, Bool, true, false, if◌then◌else◌, List, [], ◌∷◌, length, decimal, ⊤, Option, Some, None, option_map}
use Rattle.std.specs.Borrow.{Bor}
use Rattle.std.specs.List.{AllByRecursion, flat_map, onto_first}
use Rattle.zone_name.specs.Common.{NothingIs}
use Rattle.zone_name.specs.Name.{with_length}
use Rattle.zone_rdata.specs.Address.{IsIpv4Address, IsIpv6Address}
use Rattle.type_data.specs.Parameters.Keys.{key_text}
use Rattle.type_data.specs.Parameters.Text as texts
use Rattle.type_data.specs.Parameters.Value.{IsProtocol}
use Rattle.type_data.specs.Unescaped.{Unescaped}
use Rattle.type_data.specs.declared.fault.WordsFault.{WordsFault}
use Rattle.type_data.specs.declared.fault.WordsFault.TheVariants as faults
use Rattle.type_data.specs.declared.kinds.address.Version.{Version}
use Rattle.type_data.specs.declared.kinds.address.Version.TheVariants.{V4, V6}
use Rattle.type_data.specs.declared.parameters.protocols.NextListed.{NextListed}
use Rattle.type_data.specs.declared.parameters.protocols.NextListed.TheVariants.{End, Comma, Octet, BadEscape}
use Rattle.type_data.specs.declared.parameters.key.Key.{Key}
use Rattle.type_data.specs.declared.parameters.key.Key.TheVariants.{Numbered}
use Rattle.type_data.specs.declared.parameters.text.ParameterText.{ParameterText}

-- the decimal number of a key, without leading zeros
abbrev pub IsKeyNumber : List ℕ → ℕ → Type 0
IsKeyNumber digits number = (digits ≡ decimal number) × (number < 65535)

-- a key that has a name
abbrev pub HasName : Key → Type 0
HasName (Numbered number) = ⊥
HasName key = ⊤

-- the text is the name of the key
abbrev pub IsNamed : List ℕ → Key → Type 0
IsNamed text key = (text ≡ key_text key) × HasName key

-- a key and its value without where they lie in memory
abbrev pub text_of : ParameterText → texts.ParameterText
text_of text = record { key = text.key.now; value = text.value.now }

-- the octets of an address of a version
abbrev pub IsAddressOf : Version → List ℕ → List ℕ → Type 0
IsAddressOf V4 = IsIpv4Address
IsAddressOf V6 = IsIpv6Address

-- The items of a list, whose octets are parted by commas; a backslash stands before a comma or a
-- backslash alone, which then means itself (RFC 9460 A.1). `true`: a backslash stands before.
abbrev pub items_of : Bool → List ℕ → Option (List (List ℕ))
items_of true [] = None
items_of false [] = Some ([] ∷ [])
items_of true (c ∷ text) =
    if c == 44 || c == 92 then option_map (onto_first c) (items_of false text) else None
items_of false (c ∷ text) =
    if c == 44 then option_map (λ items. [] ∷ items) (items_of false text)
    else (if c == 92 then items_of true text else option_map (onto_first c) (items_of false text))

-- those items, each after its length
pub record ReadsItems (text octets : List ℕ) : Type 0 where
  pub protocols : List (List ℕ)
  pub items : items_of false text ≡ Some protocols
  pub each : AllByRecursion IsProtocol protocols
  pub value : octets ≡ flat_map with_length protocols

-- what a list begins with
abbrev pub IsNextListed : List ℕ → NextListed → Type 0
IsNextListed text End = text ≡ []
IsNextListed text (Comma rest) = text ≡ 44 ∷ rest.now
IsNextListed text (Octet c rest) =
    (items_of false text ≡ option_map (onto_first c) (items_of false rest.now))
    × (length rest.now < length text)
IsNextListed text BadEscape = items_of false text ≡ None

-- the first item of a list, and what stands after its comma
abbrev pub IsFirstItem : List ℕ → List ℕ → Option (Bor (List ℕ)) → Type 0
IsFirstItem text item None = IsProtocol item × (items_of false text ≡ Some (item ∷ []))
IsFirstItem text item (Some rest) =
    IsProtocol item × (length rest.now < length text)
    × (items_of false text ≡ option_map (λ items. item ∷ items) (items_of false rest.now))

-- a list whose items aren't all protocols
abbrev pub HasNoItems : List ℕ → Type 0
HasNoItems text = (items : List (List ℕ)) → items_of false text ≡ Some items
    → AllByRecursion IsProtocol items → ⊥

-- why a text whose escapes are undone states no octets
pub data FailsEscaped (Stated : List ℕ → List ℕ → Type 0)
    (text : List ℕ) : WordsFault → Type 0 where
  wrong : NothingIs (Unescaped text) → FailsEscaped Stated text faults.BadEscape
  nothing : (spelt : List ℕ) → Unescaped text spelt → NothingIs (Stated text)
      → FailsEscaped Stated text faults.NotAValue
