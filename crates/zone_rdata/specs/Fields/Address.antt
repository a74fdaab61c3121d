-- A field that is an address of a fixed number of octets (RFC 1035 3.4.1; RFC 3596 2.2).
use Rattle.std.specs.Prelude.{◌≡◌, ℕ, List, length, ◌==◌, if◌then◌else◌}
use Rattle.zone_name.specs.Common.{AreOctets}
use Rattle.zone_rdata.specs.Address.{IsIpv4Address, IsIpv6Address, ipv4_text, ipv6_text}

-- octets of a fixed number
pub record AreFixed (n : ℕ) (octets : List ℕ) : Type 0 where
  pub size : length octets ≡ n
  pub each : AreOctets octets

-- the text of an address of n octets
pub data IsAddress (n : ℕ) (text octets : List ℕ) : Type 0 where
  of_ipv4 : n ≡ 4 → IsIpv4Address text octets → IsAddress n text octets
  of_ipv6 : n ≡ 16 → IsIpv6Address text octets → IsAddress n text octets

-- the canonical text of 4 or 16 octets
abbrev pub address_text : List ℕ → List ℕ
address_text octets = if length octets == 4 then ipv4_text octets else ipv6_text octets
