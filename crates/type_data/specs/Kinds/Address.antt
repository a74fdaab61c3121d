-- Addresses of four octets (RFC 1035 3.4.1) and of sixteen (RFC 4291 2.2).
use Rattle.std.specs.Prelude.{◌≡◌, List, ℕ, length}
use Rattle.zone_name.specs.Common.{AreOctets}
use Rattle.zone_rdata.specs.Address.{IsIpv4Address, IsIpv6Address, ipv4_text, ipv6_text}
use Rattle.type_data.specs.Fault.{NothingStated}
use Rattle.type_data.specs.declared.fault.WordsFault.{WordsFault}
use Rattle.type_data.specs.declared.fault.WordsFault.TheVariants.{NotAnAddress}

abbrev pub StatesIpv4 : List ℕ → List ℕ → Type 0
StatesIpv4 text octets = IsIpv4Address text octets

abbrev pub FailsIpv4 : List ℕ → WordsFault → Type 0
FailsIpv4 text fault = NothingStated NotAnAddress (IsIpv4Address text) fault

abbrev pub StatesIpv6 : List ℕ → List ℕ → Type 0
StatesIpv6 text octets = IsIpv6Address text octets

abbrev pub FailsIpv6 : List ℕ → WordsFault → Type 0
FailsIpv6 text fault = NothingStated NotAnAddress (IsIpv6Address text) fault

-- four decimal numbers without leading zeros are printed
pub record PrintsIpv4 (text octets : List ℕ) : Type 0 where
  pub four : length octets ≡ 4
  pub each : AreOctets octets
  pub canonical : text ≡ ipv4_text octets

-- groups in lower case, with `::` for the longest run of zeros (RFC 5952 4)
pub record PrintsIpv6 (text octets : List ℕ) : Type 0 where
  pub sixteen : length octets ≡ 16
  pub each : AreOctets octets
  pub canonical : text ≡ ipv6_text octets
