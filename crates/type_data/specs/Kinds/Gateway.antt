-- Gateways and relays: which kind of address they are, and none at all (RFC 4025 2.3, 2.5; RFC 8777
-- 4.2.2, 4.2.3, 4.2.4).
use Rattle.std.specs.Prelude.{◌≡◌, ◌≢◌, ℕ, ◌+◌, ◌<◌, ◌≤◌, List, [], ◌∷◌, codes, decimal, Bool, true, false, None}
use Rattle.zone_name.specs.Common.{NothingIs}
use Rattle.zone_rdata.specs.Item.{RawItem}
use Rattle.zone_rdata.specs.Number.{IsDecimal}
use Rattle.type_data.specs.declared.fault.WordsFault.{WordsFault}
use Rattle.type_data.specs.declared.fault.WordsFault.TheVariants.{ItemsLeftOver, NotANumber, NotAName, TooLarge}

-- digits of a number of at most so much, and the octets that it has
pub record StatesUpTo (most : ℕ) (octets_of : ℕ → List ℕ) (text octets : List ℕ) : Type 0 where
  pub number : ℕ
  pub stated : IsDecimal text number
  pub few : number ≤ most
  pub value : octets ≡ octets_of number

-- the same by digits without leading zeros
pub record PrintsUpTo (most : ℕ) (octets_of : ℕ → List ℕ) (text octets : List ℕ) : Type 0 where
  pub number : ℕ
  pub few : number ≤ most
  pub printed : text ≡ decimal number
  pub value : octets ≡ octets_of number

-- why a text has no such digits
pub data FailsUpTo (most : ℕ) (text : List ℕ) : WordsFault → Type 0 where
  no_digits : NothingIs (IsDecimal text) → FailsUpTo most text NotANumber
  too_great : (n : ℕ) → IsDecimal text n → most < n → FailsUpTo most text TooLarge

-- the highest bit of the octet of a relay's type: whether a relay is to be discovered first is
-- optional
abbrev pub discovery_bit : Bool → ℕ
discovery_bit true = 128
discovery_bit false = 0

-- a type: 0 is none, 1 an address of four octets, 2 one of sixteen and 3 a name
abbrev pub StatesAddressType : Bool → List ℕ → List ℕ → Type 0
StatesAddressType optional text octets =
    StatesUpTo 3 (λ n. (discovery_bit optional + n) ∷ []) text octets

abbrev pub FailsAddressType : List ℕ → WordsFault → Type 0
FailsAddressType text fault = FailsUpTo 3 text fault

abbrev pub PrintsAddressType : Bool → List ℕ → List ℕ → Type 0
PrintsAddressType optional text octets =
    PrintsUpTo 3 (λ n. (discovery_bit optional + n) ∷ []) text octets

-- 0 or 1 for that bit, which is an octet with the type after it
abbrev pub StatesDiscovery : List ℕ → List ℕ → Type 0
StatesDiscovery text octets = StatesUpTo 1 (λ n. []) text octets

abbrev pub FailsDiscovery : List ℕ → WordsFault → Type 0
FailsDiscovery text fault = FailsUpTo 1 text fault

abbrev pub PrintsDiscovery : List ℕ → List ℕ → Type 0
PrintsDiscovery text octets = PrintsUpTo 1 (λ n. []) text octets

-- a dot in place of a gateway or a relay, which is no octets
abbrev pub StatesNoAddress : List ℕ → List ℕ → Type 0
StatesNoAddress text octets = (text ≡ codes ".") × (octets ≡ [])

abbrev pub FailsNoAddress : List ℕ → WordsFault → Type 0
FailsNoAddress text fault = (text ≢ codes ".") × (fault ≡ NotAName None)

-- no items, where a field has to be left out
abbrev pub StatesNothing : List RawItem → List ℕ → Type 0
StatesNothing items octets = (items ≡ []) × (octets ≡ [])

abbrev pub FailsNothing : List RawItem → WordsFault → Type 0
FailsNothing items fault = (items ≢ []) × (fault ≡ ItemsLeftOver)
