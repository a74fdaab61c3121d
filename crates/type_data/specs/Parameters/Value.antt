-- The octets that the value of a parameter states, by its key (RFC 9460 7, 8, A.1; RFC 9461 5; RFC
-- 9540 4), and why it states none.
use Rattle.std.specs.Prelude.{◌≡◌, ℕ, ◌<◌, ◌≤◌, ◌==◌, ◌||◌, if◌then◌else◌, List, [], ◌∷◌, length, map, ⊤}
use Rattle.std.specs.Int.{w16, to_be_bytes}
use Rattle.std.specs.List.{AllByRecursion, AllZip, flat_map, join_with_byte, slice_split}
use Rattle.std.specs.List.Sorted.{IsPermutation}
use Rattle.zone_name.specs.Common.{NothingIs}
use Rattle.zone_name.specs.Name.{with_length}
use Rattle.zone_rdata.specs.Address.{IsIpv4Address, IsIpv6Address}
use Rattle.zone_rdata.specs.Fields.Number.{SpellsNumber}
use Rattle.type_data.specs.Kinds.Base64.{IsBase64}
use Rattle.type_data.specs.Parameters.Keys.{SpellsKey, number_of}
use Rattle.type_data.specs.Unescaped.{Unescaped}
use Rattle.type_data.specs.declared.fault.WordsFault.{WordsFault}
use Rattle.type_data.specs.declared.fault.WordsFault.TheVariants.{BadEscape, NotAValue}
use Rattle.type_data.specs.declared.parameters.key.Key.{Key}
use Rattle.type_data.specs.declared.parameters.key.Key.TheVariants.{Mandatory, Alpn, NoDefaultAlpn, Port, Ipv4Hint, Ech, Ipv6Hint, DohPath, Ohttp, Numbered}

-- what stands between the commas of a list
abbrev pub listed : List ℕ → List (List ℕ)
listed text = slice_split (λ c. c == 44) text

-- each number is greater than the one before it
abbrev pub AscendAbove : ℕ → List ℕ → Type 0
AscendAbove low [] = ⊤
AscendAbove low (n ∷ numbers) = (low < n) × AscendAbove n numbers

-- the text of a key by its number
pub record IsKeyText (text : List ℕ) (number : ℕ) : Type 0 where
  pub key : Key
  pub spelt : SpellsKey text key
  pub numbered : number ≡ number_of key

-- a list of keys, and their numbers in ascending order: each once, and not `mandatory`, whose
-- number is 0 (RFC 9460 8)
pub record ListsKeys (text numbers : List ℕ) : Type 0 where
  pub stated : List ℕ
  pub each : AllZip IsKeyText (listed text) stated
  pub same : IsPermutation stated numbers
  pub ascend : AscendAbove 0 numbers

-- an item of a list as it stands there: a backslash before each comma and each backslash (RFC 9460
-- A.1)
abbrev pub escaped_octet : ℕ → List ℕ
escaped_octet c = if c == 44 || c == 92 then 92 ∷ c ∷ [] else c ∷ []

abbrev pub escaped_item : List ℕ → List ℕ
escaped_item octets = flat_map escaped_octet octets

-- 1 to 255 octets
abbrev pub IsProtocol : List ℕ → Type 0
IsProtocol name = (0 < length name) × (length name ≤ 255)

-- one item or more, parted by commas, and each after its length
pub record ListsItems (text octets : List ℕ) : Type 0 where
  pub protocols : List (List ℕ)
  pub some : 0 < length protocols
  pub spelt : text ≡ join_with_byte 44 (map escaped_item protocols)
  pub each : AllByRecursion IsProtocol protocols
  pub value : octets ≡ flat_map with_length protocols

-- a list of protocols, after the escapes of the text are undone (RFC 9460 7.1.1)
pub record ListsProtocols (text octets : List ℕ) : Type 0 where
  pub spelt : List ℕ
  pub unescaped : Unescaped text spelt
  pub items : ListsItems spelt octets

-- a list of addresses (RFC 9460 7.3)
pub record ListsAddresses (Is : List ℕ → List ℕ → Type 0) (text octets : List ℕ) : Type 0 where
  pub addresses : List (List ℕ)
  pub each : AllZip Is (listed text) addresses
  pub value : octets ≡ flat_map (λ address. address) addresses

-- a number of 16 bits (RFC 9460 7.2)
abbrev pub StatesPort : List ℕ → List ℕ → Type 0
StatesPort text octets =
    (number : ℕ) × SpellsNumber w16 text number × (octets ≡ to_be_bytes w16 number)

-- base64 of at least one octet (RFC 9848)
abbrev pub StatesEch : List ℕ → List ℕ → Type 0
StatesEch text octets = IsBase64 text octets

-- no value
abbrev pub StatesNone : List ℕ → List ℕ → Type 0
StatesNone text octets = (text ≡ []) × (octets ≡ [])

-- the octets of a text that isn't empty, as they are
abbrev pub StatesPath : List ℕ → List ℕ → Type 0
StatesPath text octets = Unescaped text octets × (0 < length text)

-- the keys that have to be there
abbrev pub RequiresKeys : Key → List ℕ → List ℕ → Type 0
RequiresKeys Mandatory text numbers = ListsKeys text numbers
RequiresKeys key text numbers = numbers ≡ []

abbrev pub StatesKeys : List ℕ → List ℕ → Type 0
StatesKeys text octets =
    (numbers : List ℕ) × ListsKeys text numbers × (octets ≡ flat_map (to_be_bytes w16) numbers)

-- the octets of a value, by its key; those after `keyN` are opaque
abbrev pub StatesValue : Key → List ℕ → List ℕ → Type 0
StatesValue Mandatory text octets = StatesKeys text octets
StatesValue Alpn text octets = ListsProtocols text octets
StatesValue NoDefaultAlpn text octets = StatesNone text octets
StatesValue Port text octets = StatesPort text octets
StatesValue Ipv4Hint text octets = ListsAddresses IsIpv4Address text octets
StatesValue Ech text octets = StatesEch text octets
StatesValue Ipv6Hint text octets = ListsAddresses IsIpv6Address text octets
StatesValue DohPath text octets = StatesPath text octets
StatesValue Ohttp text octets = StatesNone text octets
StatesValue (Numbered number) text octets = Unescaped text octets

-- the keys in whose values escapes are undone
abbrev pub HasEscapes : Key → Type 0
HasEscapes Alpn = ⊤
HasEscapes DohPath = ⊤
HasEscapes (Numbered number) = ⊤
HasEscapes key = ⊥

-- why a text is no value of the key: an escape that is none where escapes are undone, and else that
-- it states no octets
pub data FailsValue (key : Key) (text : List ℕ) : WordsFault → Type 0 where
  bad_escape : HasEscapes key → NothingIs (Unescaped text) → FailsValue key text BadEscape
  no_value : (HasEscapes key → (spelt : List ℕ) × Unescaped text spelt)
      → NothingIs (StatesValue key text) → FailsValue key text NotAValue
