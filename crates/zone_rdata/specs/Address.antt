-- Addresses in text: of four octets (RFC 1035 3.4.1), and of sixteen (RFC 3596 2, RFC 4291 2.2, RFC
-- 5952 4).
use Rattle.std.specs.Prelude.{◌≡◌, ℕ, ◌+◌, ◌-◌, ◌<◌, ◌≤◌, ◌⊎◌, Bool, true, false, IsTrue, List, [], ◌∷◌, ◌++◌, length, map, take, drop, replicate, codes, Ok}
use Rattle.std.specs.List.{AllZip, flat_map, join_with_byte}
use Rattle.std.specs.Net.Addr.{segments_of}
use Rattle.std.specs.Net.Text as std_text
use Rattle.hex.specs.Hex.{decode_sized}
use Rattle.zone_rdata.specs.Number.{IsDecimal}

-- a decimal number of one octet, leading zeros allowed
pub record IsOctetNumber (text : List ℕ) (n : ℕ) : Type 0 where
  pub number : IsDecimal text n
  pub short : n ≤ 255

-- so many decimal numbers parted by dots, and their octets
pub record AreNumbers (count : ℕ) (text octets : List ℕ) : Type 0 where
  pub numbers : List (List ℕ)
  pub counted : length numbers ≡ count
  pub parted : text ≡ join_with_byte 46 numbers
  pub each : AllZip IsOctetNumber numbers octets

-- an address of four octets: four decimal numbers parted by dots (RFC 1035 3.4.1)
abbrev pub IsIpv4Address : List ℕ → List ℕ → Type 0
IsIpv4Address text octets = AreNumbers 4 text octets

-- what stands between the colons of an address, and the octets that it stands for
pub record AddressPart : Type 0 where
  pub text : List ℕ
  pub octets : List ℕ

-- a group, one to four hexadecimal digits in any case: with zeros before them to make four, the
-- digits of two octets, the higher first
pub record IsGroup (p : AddressPart) : Type 0 where
  pub some : 0 < length p.text
  pub few : length p.text ≤ 4
  pub value : decode_sized (replicate (4 - length p.text) 48 ++ p.text) 2 ≡ Ok p.octets

-- a group, or at an address's end four decimal numbers in place of two groups
abbrev pub IsLastPart : Bool → AddressPart → Type 0
IsLastPart ends p = IsGroup p ⊎ (IsTrue ends × IsIpv4Address p.text p.octets)

abbrev pub AreParts : Bool → List AddressPart → Type 0
AreParts ends [] = Unit {0}
AreParts ends (p ∷ []) = IsLastPart ends p
AreParts ends (p ∷ q ∷ parts) = IsGroup p × AreParts ends (q ∷ parts)

abbrev pub parts_text : List AddressPart → List ℕ
parts_text parts = join_with_byte 58 (map (λ (p : AddressPart). p.text) parts)

abbrev pub parts_octets : List AddressPart → List ℕ
parts_octets parts = flat_map (λ (p : AddressPart). p.octets) parts

-- parts with colons between them, none at all too, and their octets; at an address's end or before
-- it
pub record ArePartsOf (ends : Bool) (text octets : List ℕ) : Type 0 where
  pub parts : List AddressPart
  pub each : AreParts ends parts
  pub parted : text ≡ parts_text parts
  pub value : octets ≡ parts_octets parts

-- four groups parted by colons, and their octets: a node identifier (RFC 6742 2.1)
pub record AreFourGroups (text octets : List ℕ) : Type 0 where
  pub groups : ArePartsOf false text octets
  pub four : length octets ≡ 8

-- groups before and after `::`, and the octets of them and of the zero groups between them, at
-- least one
pub record AreAround (front back octets : List ℕ) : Type 0 where
  pub before : List ℕ
  pub after : List ℕ
  pub front_parts : ArePartsOf false front before
  pub back_parts : ArePartsOf true back after
  pub room : length before + length after ≤ 14
  pub value : octets ≡ before ++ (replicate (16 - length before - length after) 0 ++ after)

-- an address of sixteen octets: eight groups, or fewer with `::` in one place (RFC 4291 2.2)
pub data IsIpv6Address (text octets : List ℕ) : Type 0 where
  eight : ArePartsOf true text octets → length octets ≡ 16 → IsIpv6Address text octets
  fewer : (front back : List ℕ) → text ≡ front ++ (codes "::" ++ back) → AreAround front back octets
      → IsIpv6Address text octets

-- the canonical text of four octets: decimal numbers without leading zeros
abbrev pub ipv4_text : List ℕ → List ℕ
ipv4_text octets = std_text.ipv4_text octets

-- groups of 16 bits in lower case without leading zeros, parted by colons (RFC 5952 4.1, 4.3)
abbrev pub parted_groups : List ℕ → List ℕ
parted_groups groups = std_text.groups_text groups

-- the groups with `::` for `len` of them from `start` on
abbrev pub shortened_groups : List ℕ → ℕ → ℕ → List ℕ
shortened_groups groups start len =
    parted_groups (take start groups) ++ codes "::" ++ parted_groups (drop (start + len) groups)

-- The canonical text of sixteen octets (RFC 5952 4): `::` stands for the longest run of zero
-- groups, the first of equal ones, if it has two groups or more.
abbrev pub ipv6_text : List ℕ → List ℕ
ipv6_text octets =
    let groups = segments_of octets in
    std_text.compressed_text groups (std_text.longest_zero_run groups)

-- so many zero groups in a row
abbrev pub IsZeroRun : List ℕ → ℕ → ℕ → Type 0
IsZeroRun groups start len =
    (start + len ≤ length groups) × (take len (drop start groups) ≡ replicate len 0)

-- the run that `::` stands for (RFC 5952 4.2): of two groups or more, none longer, none as long
-- before it
pub record IsShortenedRun (groups : List ℕ) (start len : ℕ) : Type 0 where
  pub zeros : IsZeroRun groups start len
  pub two : 2 ≤ len
  pub longest : (s l : ℕ) → IsZeroRun groups s l → l ≤ len
  pub first : (s : ℕ) → IsZeroRun groups s len → start ≤ s

-- what an address's canonical text is made of: digits, lower-case hexadecimal letters, `.` and `:`
abbrev pub IsAddressOctet : ℕ → Type 0
IsAddressOctet c = (48 ≤ c × c ≤ 57) ⊎ (97 ≤ c × c ≤ 102) ⊎ (c ≡ 46) ⊎ (c ≡ 58)
