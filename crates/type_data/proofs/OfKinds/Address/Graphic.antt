-- Addresses that are printed stand on a line as they are, of octets that a
-- terminal shows.
unfoldable use Rattle.base64.specs.Rfc4648.{encode_symbols}
use Rattle.zone_rdata.proofs.Addresses.AddressLaws.{ipv4_plain, ipv4_printed, ipv6_plain, ipv6_printed, ipv6_some}
use Rattle.zone_rdata.proofs.Addresses.AddressParts.{ipv4_some}
use Rattle.zone_rdata.specs.Address.{ipv4_text, ipv6_text}
use Rattle.type_data.proofs.Common.{AreOctets, List, length, ℕ, ◌≡◌}
use Rattle.type_data.proofs.Printed.Graphic.{IsGraphicText, graphic_address}

pub ipv4_graphic : (octets : List ℕ) → length octets ≡ 4 → AreOctets octets → IsGraphicText (ipv4_text octets)
ipv4_graphic octets four each = graphic_address (ipv4_text octets) (ipv4_some _ octets (ipv4_printed octets four each)) (ipv4_plain octets four each)

pub ipv6_graphic : (octets : List ℕ) → length octets ≡ 16 → AreOctets octets → IsGraphicText (ipv6_text octets)
ipv6_graphic octets sixteen each = graphic_address (ipv6_text octets) (ipv6_some _ octets (ipv6_printed octets sixteen each)) (ipv6_plain octets sixteen each)
