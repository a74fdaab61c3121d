-- How the code prints parameters.
use Rattle.std.specs.Prelude.{◌≡◌, ◌≢◌, ℕ, ◌<◌, ◌^◌, List, [], ◌∷◌, ◌++◌, length, map}
use Rattle.std.specs.Int.{from_be_bytes, to_be_bytes, w16}
use Rattle.std.specs.List.{AllByRecursion, AllZip, flat_map, join_with_byte}
use Rattle.zone_name.specs.Common.{AreOctets}
use Rattle.zone_name.specs.Name.{with_length}
use Rattle.zone_rdata.specs.Address.{ipv4_text, ipv6_text}
use Rattle.type_data.specs.DataItem.{TouchingItem}
use Rattle.type_data.specs.Kinds.Address.{PrintsIpv4, PrintsIpv6}
use Rattle.type_data.specs.Parameters.{IsShort, Sent, sent_octets}
use Rattle.type_data.specs.Parameters.Keys.{key_text}
use Rattle.type_data.specs.Parameters.Printed.{IsAmong, IsStated, PrintsParameter, ValueText, left_out, unquoted, in_quotes, usual_key, written_touching}
use Rattle.type_data.specs.Parameters.Value.{AscendAbove, IsProtocol}
use Rattle.type_data.specs.declared.kinds.address.Version.{Version}
use Rattle.type_data.specs.declared.kinds.address.Version.TheVariants.{V4, V6}
use Rattle.type_data.specs.declared.parameters.key.Key.{Key}
use Rattle.type_data.specs.declared.parameters.printing.sent.Parameter.{Parameter}

abbrev pub sent_of : Parameter → Sent
sent_of p = record { number = p.key; octets = p.value.now }

abbrev pub all_sent : List Parameter → List Sent
all_sent parameters = map sent_of parameters

-- the octets begin with those of the parameter
pub record IsSentFront (octets : List ℕ) (s : Sent) (rest : List ℕ) : Type 0 where
  pub number : s.number < 2 ^ 16
  pub short : IsShort s
  pub each : AreOctets s.octets
  pub whole : octets ≡ sent_octets s ++ rest

-- a value after its key
abbrev pub value_octets : ValueText → List ℕ
value_octets left_out = []
value_octets (unquoted text) = 61 ∷ text
value_octets (in_quotes text) = 61 ∷ 34 ∷ text ++ 34 ∷ []

-- a value is printed after its key
pub record AppendsValue (Prints : ValueText → Type 0) (old new : List ℕ) : Type 0 where
  pub text : ValueText
  pub printed : Prints text
  pub appended : new ≡ old ++ value_octets text

-- a text without quotes is printed after its key
pub record AppendsUnquoted (Prints : List ℕ → Type 0) (old new : List ℕ) : Type 0 where
  pub text : List ℕ
  pub printed : Prints text
  pub appended : new ≡ old ++ 61 ∷ text

-- a text in quotes is printed after its key
pub record AppendsQuoted (Prints : List ℕ → Type 0) (old new : List ℕ) : Type 0 where
  pub text : List ℕ
  pub printed : Prints text
  pub appended : new ≡ old ++ (61 ∷ 34 ∷ text ++ 34 ∷ [])

-- nothing is printed, since it is so; some octets may have been appended
pub record StopsAs (Is : Type 0) (old new : List ℕ) : Type 0 where
  pub reason : Is
  pub added : List ℕ
  pub appended : new ≡ old ++ added

-- no text states the octets as a value of the key
abbrev pub NoValue : List Sent → Key → List ℕ → Type 0
NoValue parameters key octets = (words : List ℕ) → IsStated parameters key words octets → ⊥

-- one of the parameters is printed
pub record AppendsParameter (parameters : List Sent) (s : Sent) (old new : List ℕ) : Type 0 where
  pub items : List TouchingItem
  pub printed : PrintsParameter parameters s items
  pub appended : new ≡ old ++ written_touching items

-- ---- lists

-- texts with commas between, after a mark
abbrev pub marked : List ℕ → List (List ℕ) → List ℕ
marked mark [] = []
marked mark (text ∷ texts) = mark ++ join_with_byte 44 (text ∷ texts)

-- how many octets an address of a version has
abbrev pub size_of : Version → ℕ
size_of V4 = 4
size_of V6 = 16

abbrev pub address_text : Version → List ℕ → List ℕ
address_text V4 = ipv4_text
address_text V6 = ipv6_text

abbrev pub PrintsAddress : Version → List ℕ → List ℕ → Type 0
PrintsAddress V4 = PrintsIpv4
PrintsAddress V6 = PrintsIpv6

-- octets of addresses, one or more
pub record AreAddresses (size : ℕ) (addresses : List (List ℕ)) (octets : List ℕ) : Type 0 where
  pub some : 0 < length addresses
  pub each : AllByRecursion (λ address. length address ≡ size) addresses
  pub value : octets ≡ flat_map (λ address. address) addresses

abbrev pub NoAddresses : ℕ → List ℕ → Type 0
NoAddresses size octets = (addresses : List (List ℕ)) → AreAddresses size addresses octets → ⊥

-- octets of protocols, one or more
pub record AreProtocols (protocols : List (List ℕ)) (octets : List ℕ) : Type 0 where
  pub some : 0 < length protocols
  pub each : AllByRecursion IsProtocol protocols
  pub value : octets ≡ flat_map with_length protocols

abbrev pub NoProtocols : List ℕ → Type 0
NoProtocols octets = (protocols : List (List ℕ)) → AreProtocols protocols octets → ⊥

-- the numbers of 16 bits that octets are
abbrev pub numbers_in : List ℕ → List ℕ
numbers_in (high ∷ low ∷ octets) = from_be_bytes w16 (high ∷ low ∷ []) ∷ numbers_in octets
numbers_in octets = []

-- a key that isn't 0 is taken from the front of others, where it stands there
pub data IsAfterKey (key : ℕ) (keys left : List ℕ) : Type 0 where
  taken : keys ≡ to_be_bytes w16 key ++ left → key < 2 ^ 16 → key ≢ 0 → IsAfterKey key keys left
  stays : left ≡ keys
      → ((n : ℕ) (more : List ℕ) → numbers_in keys ≡ n ∷ more → n ≡ key → n ≡ 0)
      → IsAfterKey key keys left

abbrev pub key_texts : List ℕ → List (List ℕ)
key_texts numbers = map (λ number. key_text (usual_key number)) numbers

-- octets of keys in ascending order that are there, one or more
pub record AreKeys (parameters : List Sent) (numbers octets : List ℕ) : Type 0 where
  pub ascend : AscendAbove 0 numbers
  pub there : AllByRecursion (IsAmong parameters) numbers
  pub value : octets ≡ flat_map (to_be_bytes w16) numbers

-- the parameters are printed
pub record AppendsParameters (parameters : List Sent) (old new : List ℕ) : Type 0 where
  pub parts : List (List TouchingItem)
  pub each : AllZip (PrintsParameter parameters) parameters parts
  pub appended : new ≡ old ++ written_touching (flat_map (λ part. part) parts)
