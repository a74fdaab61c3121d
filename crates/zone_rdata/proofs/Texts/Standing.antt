-- Texts and items that stand in a master file as they are printed.
use Rattle.zone_rdata.proofs.Common.{AllPass-from_list_all, recursion_from_All, [], ◌≡◌, ℕ, ◌/◌, ◌%◌, ◌^◌, ◌<◌, ◌&&◌, nat_lt, Bool, true, List, ◌∷◌, length, decimal, refl, arith, AllByRecursion, list_all, and_parts, nat_tests, lower_digits, encode_lower, AreOctets, StandsBare, is_bare, bare_octets, IsAddressOctet, RawItem, bare, quoted, StandsInQuotes, All-from_recursion, encode_with, each_weaker}
use Rattle.zone_rdata.proofs.Items.GenericLaws.{decimal-is}

-- an item that stands as it is printed: bare, or between its quotes in one line
abbrev pub IsPrintedItem : RawItem → Type 0
IsPrintedItem (bare text) = StandsBare text
IsPrintedItem (quoted text) = StandsInQuotes text

-- octets that stand by themselves outside quotes
abbrev pub AreBare : List ℕ → Type 0
AreBare text = AllByRecursion (λ c. is_bare c ≡ true) text

-- ---- literals

abbrev pub are_bare : List ℕ → Bool
are_bare text = nat_lt 0 (length text) && list_all is_bare text

pub tested_each : (text : List ℕ) → list_all is_bare text ≡ true → AreBare text
tested_each text e = recursion_from_All (λ c. is_bare c ≡ true) text (AllPass-from_list_all is_bare text e)

pub bare_tested : (text : List ℕ) → are_bare text ≡ true → StandsBare text
bare_tested text e = grind (arith, and_parts, is_bare, bare_octets, tested_each)

-- ---- numbers

pub bare_decimal : (n : ℕ) → n < 2 ^ 64 → StandsBare (decimal n)
bare_decimal n short =
    let is = decimal-is n short in
    bare_octets (decimal n) is.some (each_weaker (λ c. is_bare c ≡ true) (λ c digit. grind (arith, nat_tests)) (decimal n) is.digits)

pub hex_bare : (octets : List ℕ) → AreOctets octets → AreBare (encode_lower octets)
unfolding encode_with
hex_bare [] low = tt
hex_bare (c ∷ octets) low =
    let fits : c < 256 = low.0 in
    let digits = All-from_recursion (λ c. is_bare c ≡ true) lower_digits (tested_each lower_digits refl) in
    (digits (c / 16) 0 (omega arith), (digits (c % 16) 0 (omega arith), hex_bare octets low.1))

pub bare_hex : (c : ℕ) (octets : List ℕ) → AreOctets (c ∷ octets) → StandsBare (encode_lower (c ∷ octets))
unfolding encode_with
bare_hex c octets low = bare_octets (encode_lower (c ∷ octets)) (omega arith) (hex_bare (c ∷ octets) low)

-- ---- addresses

pub bare_address : (text : List ℕ) → 0 < length text → AllByRecursion IsAddressOctet text → StandsBare text
bare_address text some each = bare_octets text some (each_weaker (λ c. is_bare c ≡ true) (λ c given. grind arith) text each)
