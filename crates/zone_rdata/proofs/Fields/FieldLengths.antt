-- How many octets a printed number, address or string has, with a space after it.
use Rattle.zone_rdata.proofs.Common.{[], ◌≡◌, ℕ, ◌+◌, ◌*◌, ◌<◌, ◌≤◌, List, ◌∷◌, length, map, decimal, arith, ap, length-append, le-ltb, lt-ltb, flat_map, cases_lt, length-decimal-le, length-drop, length-take, AreOctets, with_length, ipv4_text, ipv6_text, parted_groups, shortened_groups, inside_text, string_text, strings_text, hex}
use Rattle.zone_rdata.proofs.Addresses.AddressLaws.{segments_count}
use Rattle.zone_rdata.proofs.Texts.FieldTexts.{joined_more}

-- ---- addresses

octet_length : (n : ℕ) → n < 256 → length (decimal n) ≤ 3
octet_length n short = length-decimal-le 3 n (omega arith) (omega arith) (omega arith)

pub ipv4_length : (octets : List ℕ) → length octets ≡ 4 → AreOctets octets → length (ipv4_text octets) ≤ 15
ipv4_length (a ∷ b ∷ c ∷ d ∷ []) size low = grind (arith, length-append, octet_length)
ipv4_length octets size low = absurd (omega arith)

hex_length : (n : ℕ) → length (hex n) ≤ 4
unfolding hex
hex_length n = grind (arith, length-drop)

more_length : (groups : List ℕ) → length (flat_map (λ t. 58 ∷ hex t) groups) ≤ 5 * length groups
more_length [] = omega arith
more_length (g ∷ groups) = grind (arith, length-append, hex_length, more_length groups)

groups_length : (groups : List ℕ) → length (parted_groups groups) ≤ 5 * length groups
groups_length [] = omega arith
groups_length (g ∷ groups) = omega (arith, length-append (hex g) (flat_map (λ t. 58 ∷ hex t) groups), hex_length g, more_length groups)

shortened_length : (groups : List ℕ) (start len : ℕ) → length (shortened_groups groups start len) ≤ 5 * length groups + 2
shortened_length groups start len = grind (arith, length-append, groups_length, length-take, length-drop)

pub ipv6_length : (octets : List ℕ) → length octets ≡ 16 → length (ipv6_text octets) ≤ 42
ipv6_length octets size = grind (arith, segments_count, cases_lt, lt-ltb, shortened_length, le-ltb, groups_length)

-- ---- strings

inside_length : (octets : List ℕ) → length (inside_text octets) ≤ 4 * length octets
inside_length [] = omega arith
inside_length (c ∷ octets) = grind (arith, inside_length octets)

pub string_length : (octets : List ℕ) → length (string_text octets) + 1 ≤ 4 * length (with_length octets)
string_length octets = grind (arith, length-append, inside_length)

spaced_length : (many : List (List ℕ)) → length (flat_map (λ t. 32 ∷ t) (map string_text many)) ≤ 4 * length (flat_map with_length many)
spaced_length [] = omega arith
spaced_length (octets ∷ many) = grind (arith, length-append, string_length, spaced_length many)

pub strings_length : (many : List (List ℕ)) → 0 < length many → length (strings_text many) + 1 ≤ 4 * length (flat_map with_length many)
strings_length [] some = absurd (omega arith)
strings_length (octets ∷ many) some = omega (arith, ap length (joined_more (string_text octets) (map string_text many)), spaced_length (octets ∷ many))
