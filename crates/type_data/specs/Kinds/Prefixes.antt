-- Prefixes of addresses (RFC 3123 4, 5).
use Rattle.std.specs.Prelude.{◌≡◌, ◌≢◌, ℕ, ◌+◌, ◌-◌, ◌*◌, ◌<◌, ◌≤◌, List, [], ◌∷◌, ◌++◌, length, replicate, slice_index, codes, decimal, Bool, true, false}
use Rattle.std.specs.Int.{w16, to_be_bytes}
use Rattle.zone_name.specs.Common.{AreOctets}
use Rattle.zone_rdata.specs.Address.{IsIpv4Address, IsIpv6Address, ipv4_text, ipv6_text}
use Rattle.zone_rdata.specs.Item.{RawItem, bare, quoted}
use Rattle.zone_rdata.specs.Number.{IsDecimal}
use Rattle.type_data.specs.Fault.{NothingStated}
use Rattle.type_data.specs.declared.fault.WordsFault.{WordsFault}
use Rattle.type_data.specs.declared.fault.WordsFault.TheVariants.{NoPrefix}
use Rattle.type_data.specs.declared.kinds.prefixes.Address.{Address}
use Rattle.type_data.specs.declared.kinds.prefixes.Address.TheVariants.{Ipv4, Ipv6}
use Rattle.type_data.specs.declared.kinds.prefixes.Prefix.{Prefix}
pub mod Machine

-- the number of an address's family
abbrev pub family_of : Address → ℕ
family_of (Ipv4 octets) = 1
family_of (Ipv6 octets) = 2

abbrev pub octets_of : Address → List ℕ
octets_of (Ipv4 octets) = octets
octets_of (Ipv6 octets) = octets

abbrev pub IsAddressText : List ℕ → Address → Type 0
IsAddressText text (Ipv4 octets) = IsIpv4Address text octets
IsAddressText text (Ipv6 octets) = IsIpv6Address text octets

-- what stands before a prefix that is left out of a greater one
abbrev pub mark : Bool → List ℕ
mark true = codes "!"
mark false = []

-- a text as `!1:192.168.38.0/28`: an address beyond its length has any bits
pub record SpellsPrefix (text : List ℕ) (p : Prefix) : Type 0 where
  pub family : List ℕ
  pub address : List ℕ
  pub len : List ℕ
  pub parts : text ≡ (mark p.negated ++ (family ++ 58 ∷ address)) ++ 47 ∷ len
  pub number : IsDecimal family (family_of p.address)
  pub is : IsAddressText address p.address
  pub bits : IsDecimal len p.bits
  pub few : p.bits ≤ 8 * length (octets_of p.address)

-- octets without the zeros that end them
pub record IsTrimmed (octets part : List ℕ) : Type 0 where
  pub zeros : ℕ
  pub whole : octets ≡ part ++ replicate zeros 0
  pub last : 0 < length part → slice_index part (length part - 1) ≢ 0

-- the highest bit before the count of the address's octets
abbrev pub sign : Bool → ℕ
sign true = 128
sign false = 0

-- the family, the length of the prefix, the count of the address's octets, and these
pub record IsPrefixOctets (p : Prefix) (octets : List ℕ) : Type 0 where
  pub part : List ℕ
  pub trimmed : IsTrimmed (octets_of p.address) part
  pub value : octets ≡ to_be_bytes w16 (family_of p.address)
      ++ (p.bits ∷ (sign p.negated + length part) ∷ part)

-- the text spells a prefix of these octets
abbrev pub IsAPrefix : List ℕ → List ℕ → Type 0
IsAPrefix text octets = (p : Prefix) × (SpellsPrefix text p × IsPrefixOctets p octets)

abbrev pub StatesPrefix : RawItem → List ℕ → Type 0
StatesPrefix (bare text) octets = IsAPrefix text octets
StatesPrefix (quoted text) octets = ⊥

-- any number of prefixes, one after another
abbrev pub StatesPrefixes : List RawItem → List ℕ → Type 0
StatesPrefixes [] octets = octets ≡ []
StatesPrefixes (item ∷ items) octets =
    (front back : List ℕ) × (StatesPrefix item front × (StatesPrefixes items back
    × (octets ≡ front ++ back)))

abbrev pub FailsPrefixes : List RawItem → WordsFault → Type 0
FailsPrefixes items fault = NothingStated NoPrefix (StatesPrefixes items) fault

-- an address has the octets of its family
abbrev pub IsAddress : Address → Type 0
IsAddress (Ipv4 octets) = (length octets ≡ 4) × AreOctets octets
IsAddress (Ipv6 octets) = (length octets ≡ 16) × AreOctets octets

-- the usual text of an address
abbrev pub address_text : Address → List ℕ
address_text (Ipv4 octets) = ipv4_text octets
address_text (Ipv6 octets) = ipv6_text octets

-- the usual text of a prefix, as `!1:192.168.38.0/28`, its numbers without leading zeros
abbrev pub prefix_text : Prefix → List ℕ
prefix_text p =
    (mark p.negated ++ (decimal (family_of p.address) ++ 58 ∷ address_text p.address))
    ++ 47 ∷ decimal p.bits

-- how octets of one prefix are printed
pub record PrintsPrefix (text octets : List ℕ) : Type 0 where
  pub prefix : Prefix
  pub address : IsAddress prefix.address
  pub few : prefix.bits ≤ 8 * length (octets_of prefix.address)
  pub printed : text ≡ prefix_text prefix
  pub value : IsPrefixOctets prefix octets

abbrev pub PrintsPrefixItem : RawItem → List ℕ → Type 0
PrintsPrefixItem (bare text) octets = PrintsPrefix text octets
PrintsPrefixItem (quoted text) octets = ⊥

-- an item for each prefix, none for no octets
abbrev pub PrintsPrefixes : List RawItem → List ℕ → Type 0
PrintsPrefixes [] octets = octets ≡ []
PrintsPrefixes (item ∷ items) octets =
    (front back : List ℕ) × (PrintsPrefixItem item front × (PrintsPrefixes items back
    × (octets ≡ front ++ back)))
