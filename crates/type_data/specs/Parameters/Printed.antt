-- How the parameters of a service are printed (RFC 9460 2.1): in the order of their octets, each by
-- the name of its key where its value is one of that key, and else by the number of its key with its
-- value as opaque octets.
use Rattle.std.specs.Prelude.{◌≡◌, ℕ, ◌<◌, ◌^◌, ◌⊎◌, true, false, List, [], ◌∷◌, ◌++◌, length, map, get_or, decimal, if◌then◌else◌}
use Rattle.base64.specs.Engines.{standard}
use Rattle.base64.specs.GeneralPurpose.{encode_of}
use Rattle.std.specs.Int.{w16, to_be_bytes}
use Rattle.std.specs.List.{AllByRecursion, AllZip, flat_map, join_with_byte}
use Rattle.zone_name.specs.Common.{AreOctets}
use Rattle.zone_name.specs.Name.{with_length}
use Rattle.zone_rdata.specs.Address.{ipv4_text, ipv6_text}
use Rattle.zone_rdata.specs.Item.{bare, quoted}
use Rattle.zone_rdata.specs.Strings.{inside_text}
use Rattle.zone_rdata.specs.Text.{written_item}
use Rattle.type_data.specs.DataItem.{TouchingItem}
use Rattle.type_data.specs.Parameters.{Ascend, IsShort, Sent, StatesParameters, sent_octets}
use Rattle.type_data.specs.Parameters.Keys.{key_text}
use Rattle.type_data.specs.Parameters.Text.{placed}
use Rattle.type_data.specs.Parameters.Value.{AscendAbove, IsProtocol, RequiresKeys, StatesValue, escaped_item}
use Rattle.type_data.specs.declared.parameters.key.Key.{Key}
use Rattle.type_data.specs.declared.parameters.key.Key.TheVariants.{Mandatory, Alpn, NoDefaultAlpn, Port, Ipv4Hint, Ech, Ipv6Hint, DohPath, Ohttp, Numbered}

-- the keys that have names, by their numbers
abbrev pub named_keys : List Key
named_keys =
    Mandatory ∷ Alpn ∷ NoDefaultAlpn ∷ Port ∷ Ipv4Hint ∷ Ech ∷ Ipv6Hint ∷ DohPath ∷ Ohttp ∷ []

-- a key by its name, where it has one
abbrev pub usual_key : ℕ → Key
usual_key number = get_or named_keys number (Numbered number)

-- one of the parameters has the key
abbrev pub IsAmong : List Sent → ℕ → Type 0
IsAmong [] number = ⊥
IsAmong (s ∷ parameters) number = (s.number ≡ number) ⊎ IsAmong parameters number

-- a value as it is written: left out, or after `=`, perhaps in quotes
pub data ValueText : Type 0 where
  left_out : ValueText
  unquoted : List ℕ → ValueText
  in_quotes : List ℕ → ValueText

-- keys in ascending order that are there (RFC 9460 8), with commas between
pub record PrintsKeys (parameters : List Sent) (text octets : List ℕ) : Type 0 where
  pub numbers : List ℕ
  pub some : 0 < length numbers
  pub ascend : AscendAbove 0 numbers
  pub there : AllByRecursion (IsAmong parameters) numbers
  pub value : octets ≡ flat_map (to_be_bytes w16) numbers
  pub printed : text ≡ join_with_byte 44 (map (λ number. key_text (usual_key number)) numbers)

-- protocols with commas between (RFC 9460 7.1.1, A.1)
pub record PrintsProtocols (text octets : List ℕ) : Type 0 where
  pub protocols : List (List ℕ)
  pub some : 0 < length protocols
  pub each : AllByRecursion IsProtocol protocols
  pub value : octets ≡ flat_map with_length protocols
  pub printed : text ≡ inside_text (join_with_byte 44 (map escaped_item protocols))

-- addresses of so many octets with commas between (RFC 9460 7.3)
pub record PrintsAddresses (size : ℕ) (address_text : List ℕ → List ℕ) (text octets : List ℕ)
    : Type 0 where
  pub addresses : List (List ℕ)
  pub some : 0 < length addresses
  pub each : AllByRecursion (λ address. length address ≡ size) addresses
  pub value : octets ≡ flat_map (λ address. address) addresses
  pub printed : text ≡ join_with_byte 44 (map address_text addresses)

-- a number of 16 bits (RFC 9460 7.2)
abbrev pub PrintsPort : List ℕ → List ℕ → Type 0
PrintsPort text octets =
    (number : ℕ) × (number < 2 ^ 16) × (octets ≡ to_be_bytes w16 number) × (text ≡ decimal number)

-- the usual text of a value of a key; after `keyN` any octets in quotes
abbrev pub PrintsValue : List Sent → Key → ValueText → List ℕ → Type 0
PrintsValue parameters Mandatory (unquoted text) octets = PrintsKeys parameters text octets
PrintsValue parameters Alpn (in_quotes text) octets = PrintsProtocols text octets
PrintsValue parameters NoDefaultAlpn left_out octets = octets ≡ []
PrintsValue parameters Port (unquoted text) octets = PrintsPort text octets
PrintsValue parameters Ipv4Hint (unquoted text) octets = PrintsAddresses 4 ipv4_text text octets
PrintsValue parameters Ech (unquoted text) octets =
    (0 < length octets) × (text ≡ encode_of standard octets)
PrintsValue parameters Ipv6Hint (unquoted text) octets = PrintsAddresses 16 ipv6_text text octets
PrintsValue parameters DohPath (in_quotes text) octets =
    (0 < length octets) × (text ≡ inside_text octets)
PrintsValue parameters Ohttp left_out octets = octets ≡ []
PrintsValue parameters (Numbered number) left_out octets = octets ≡ []
PrintsValue parameters (Numbered number) (in_quotes text) octets =
    (0 < length octets) × (text ≡ inside_text octets)
PrintsValue parameters key text octets = ⊥

-- a text states the octets as a value of the key, and the keys that it requires are there
pub record IsStated (parameters : List Sent) (key : Key) (text octets : List ℕ) : Type 0 where
  pub value : StatesValue key text octets
  pub required : List ℕ
  pub requires_keys : RequiresKeys key text required
  pub there : AllByRecursion (IsAmong parameters) required

abbrev pub parameter_items : Key → ValueText → List TouchingItem
parameter_items key left_out = placed (bare (key_text key)) false ∷ []
parameter_items key (unquoted text) = placed (bare (key_text key ++ 61 ∷ text)) false ∷ []
parameter_items key (in_quotes text) =
    placed (bare (key_text key ++ 61 ∷ [])) false ∷ placed (quoted text) true ∷ []

-- how one of the parameters is printed: by its number where no text states its value by its name
pub data PrintsParameter (parameters : List Sent) (s : Sent) : List TouchingItem → Type 0 where
  by_name : (text : ValueText) → PrintsValue parameters (usual_key s.number) text s.octets
      → PrintsParameter parameters s (parameter_items (usual_key s.number) text)
  by_number : (text : ValueText)
      → ((words : List ℕ) → IsStated parameters (usual_key s.number) words s.octets → ⊥)
      → PrintsValue parameters (Numbered s.number) text s.octets
      → PrintsParameter parameters s (parameter_items (Numbered s.number) text)

-- 65535 is no key (RFC 9460 14.3.2)
pub record IsSendable (s : Sent) : Type 0 where
  pub valid : s.number < 65535
  pub short : IsShort s
  pub each : AreOctets s.octets

-- the octets are those of the parameters, whose keys ascend (RFC 9460 2.2)
pub record HaveOctets (parameters : List Sent) (octets : List ℕ) : Type 0 where
  pub ascend : Ascend parameters
  pub each : AllByRecursion IsSendable parameters
  pub value : octets ≡ flat_map sent_octets parameters

pub record PrintsParameters (items : List TouchingItem) (octets : List ℕ) : Type 0 where
  pub parameters : List Sent
  pub sent : HaveOctets parameters octets
  pub parts : List (List TouchingItem)
  pub each : AllZip (PrintsParameter parameters) parameters parts
  pub whole : items ≡ flat_map (λ part. part) parts

-- items as they are written: each after a blank, but for one that touches the item before it
abbrev pub written_touching : List TouchingItem → List ℕ
written_touching items = flat_map (λ (d : TouchingItem).
    if d.touches then written_item d.item else 32 ∷ written_item d.item) items

-- all octets are printed: the items of which they are the octets are appended as they are written
pub record PrintsTouching (Prints : List TouchingItem → List ℕ → Type 0) (octets old new : List ℕ)
    : Type 0 where
  pub items : List TouchingItem
  pub printed : Prints items octets
  pub appended : new ≡ old ++ written_touching items

-- no items state parameters of these octets
abbrev pub NoParameters : List ℕ → Type 0
NoParameters octets = (items : List TouchingItem) → StatesParameters items octets → ⊥
