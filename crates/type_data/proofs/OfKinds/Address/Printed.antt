-- Addresses that are printed.
use Rattle.zone_rdata.proofs.Addresses.AddressOctets.{ipv4_count, ipv6_count}
use Rattle.zone_rdata.proofs.Addresses.AddressLaws.{ipv4_printed, ipv6_printed}
use Rattle.type_data.proofs.Common.{AllByRecursion-front, AreOctets, IsAddressOf, List, bytes_each, get_or, length, refl, subst, sym, ℕ, ◌++◌, ◌<◌, ◌≡◌}
use Rattle.type_data.proofs.Printed.Fronts.{HaveCount, front_printed, front_short}
use Rattle.type_data.specs.Kinds.Address.{PrintsIpv4, PrintsIpv6, StatesIpv4, StatesIpv6}
use Rattle.type_data.specs.Parameters.Machine.Printed.{PrintsAddress, address_text, size_of}
use Rattle.type_data.specs.Printed.{NoFront, PrintsFront}
use Rattle.type_data.specs.declared.kinds.address.Version.{Version}
use Rattle.type_data.specs.declared.kinds.address.Version.TheVariants.{V4, V6}

-- a part of octets is octets
pub part_octets : (octets part rest : List ℕ) → ((i : ℕ) → get_or octets i 0 < 256) → octets ≡ part ++ rest → AreOctets part
part_octets octets part rest each whole = AllByRecursion-front (λ c. c < 256) part rest (subst AreOctets whole (bytes_each octets each))

address_count : (version : Version) → HaveCount (IsAddressOf version) (size_of version)
address_count V4 = ipv4_count
address_count V6 = ipv6_count

address_printed : (version : Version) (part : List ℕ) → length part ≡ size_of version → AreOctets part → PrintsAddress version (address_text version part) part
address_printed V4 part four each = record { four = four; each = each; canonical = refl }
address_printed V6 part sixteen each = record { sixteen = sixteen; each = each; canonical = refl }

pub address_front : (version : Version) (octets rest old new part : List ℕ) → ((i : ℕ) → get_or octets i 0 < 256) → octets ≡ part ++ rest → length part ≡ size_of version → new ≡ old ++ address_text version part → PrintsFront (PrintsAddress version) (IsAddressOf version) octets rest old new
address_front version octets rest old new part each whole long appended =
    front_printed (PrintsAddress version) (IsAddressOf version) (size_of version) octets rest old new part (address_text version part) (address_count version) whole long
    (address_printed version part long (part_octets octets part rest each whole)) appended

pub no_address : (version : Version) (octets : List ℕ) → length octets < size_of version → NoFront (IsAddressOf version) octets
no_address version octets short = front_short (IsAddressOf version) (size_of version) octets (address_count version) short

-- ---- they state the octets

pub ipv4_printed_states : (text octets : List ℕ) → PrintsIpv4 text octets → StatesIpv4 text octets
ipv4_printed_states text octets p = subst (λ t. StatesIpv4 t octets) (sym p.canonical) (ipv4_printed octets p.four p.each)

pub ipv6_printed_states : (text octets : List ℕ) → PrintsIpv6 text octets → StatesIpv6 text octets
ipv6_printed_states text octets p = subst (λ t. StatesIpv6 t octets) (sym p.canonical) (ipv6_printed octets p.sixteen p.each)
