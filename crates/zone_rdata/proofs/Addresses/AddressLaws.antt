-- What is printed for an address is read back, and is of the form that RFC 5952 recommends.
use Rattle.zone_rdata.proofs.Common.{[], ◌≡◌, ℕ, zero, suc, ◌+◌, ◌-◌, ◌*◌, ◌/◌, ◌%◌, ◌^◌, ◌<◌, ◌≤◌, Bool, true, false, inl, inr, List, ◌∷◌, ◌++◌, length, take, drop, map, replicate, decimal, refl, sym, ap, ◌∙◌, subst, arith, append_assoc, length-append, lt-ltb, le-ltb, rules, fold, AllByRecursion, longest_zero_run, cases_lt, lt-leb, decimal_nonempty, digits_decimal, digits_value-decimal, append-nil, take-append-drop, length-take-le, length-drop, drop-drop, All-weaker, recursion_from_All, decode_sized-encode_lower, AreOctets, decimal_value, IsOctetNumber, IsIpv4Address, AddressPart, IsGroup, AreParts, parts_text, parts_octets, ArePartsOf, IsIpv6Address, eight, fewer, ipv4_text, ipv6_text, parted_groups, shortened_groups, IsZeroRun, IsShortenedRun, IsAddressOctet, AllByRecursion-front, AllByRecursion-back, common_steps, le-leb, hex, hex_groups_text, each_below, bytes_eq, nat_le, nat_tests, if◌then◌else◌, ◌==◌, slice_index, eqb-true, encode_lower, lower_digits, digit_char, agree_below_at, encode_with}
use Rattle.std.specs.Net.Addr.{segments_of}
use Rattle.std.proofs.NetLemmas.Texts.{IsZeroRun-longest_zero_run, longest_zero_run_first}
use Rattle.std.proofs.NetLemmas.Alphabet.{IsDigitOrDot, IsHexOrColon, All-ipv4_text, All-hex_groups_text}
use Rattle.std.proofs.lemmas.Str.Parse.{IsNumeralModel, numerals_by_fold}
use Rattle.zone_rdata.proofs.Numbers.TimeLaws.{AreDigits}
use Rattle.zone_rdata.proofs.Addresses.AddressParts.{parts_some}
use Rattle.std.specs.Cmp.Lexicographic.{bytes_decides}
use Rattle.std.specs.Fmt.{digits}

-- the first places of hex's table hold the digits that std writes
digit_same : (d : ℕ) → d < 16 → slice_index lower_digits d ≡ digit_char d
digit_same d h = eqb-true (slice_index lower_digits d) (digit_char d) (agree_below_at (λ k. slice_index lower_digits k == digit_char k) (λ _. true) 16 d refl h)

-- four digits
abbrev pub four_digits : ℕ → List ℕ
four_digits n = digit_char (n / 0x1000) ∷ digit_char (n / 0x100 % 16) ∷ digit_char (n / 0x10 % 16) ∷ digit_char (n % 16) ∷ []

pub four_encoded : (n : ℕ) → n < 2 ^ 16 → encode_lower (n / 256 ∷ n % 256 ∷ []) ≡ four_digits n
unfolding encode_with
four_encoded n fits = grind (arith, digit_same)

-- a digit that isn't a leading zero
abbrev pub shown : Bool → ℕ → List ℕ
shown some digit = if some then digit ∷ [] else []

pub group_written : (n : ℕ) → n < 2 ^ 16
    → shown (nat_le 0x1000 n) (digit_char (n / 0x1000 % 16)) ++ shown (nat_le 0x100 n) (digit_char (n / 0x100 % 16))
    ++ shown (nat_le 0x10 n) (digit_char (n / 0x10 % 16)) ++ digit_char (n % 16) ∷ [] ≡ hex n
unfolding hex
group_written n fits = grind (arith, nat_tests)

abbrev number_digits : ℕ → List ℕ
number_digits n = shown (nat_le 100 n) (48 + n / 100) ++ shown (nat_le 10 n) (48 + n / 10 % 10) ++ (48 + n % 10) ∷ []

-- the decimal digits of an octet, which is tried for all
pub number_written : (n : ℕ) → n < 256 → number_digits n ≡ decimal n
unfolding digits
number_written n fits =
    (bytes_decides (number_digits n) (decimal n)).0
    (agree_below_at (λ k. bytes_eq (number_digits k) (decimal k)) (λ _. true) 256 n refl fits)

-- ---- four octets

own : IsNumeralModel AreDigits decimal_value
own = numerals_by_fold AreDigits (search rules) (λ n text. fold (λ n c. n * 10 + (c - 48)) n text) (record { empty = λ n. refl; more = λ n c cs h. refl })

number_printed : (n : ℕ) → n < 256 → IsOctetNumber (decimal n) n
number_printed n fits = grind (arith, decimal_nonempty, digits_decimal, own, digits_value-decimal)

pub ipv4_printed : (octets : List ℕ) → length octets ≡ 4 → AreOctets octets → IsIpv4Address (ipv4_text octets) octets
ipv4_printed (a ∷ b ∷ c ∷ d ∷ []) len each = record { numbers = decimal a ∷ decimal b ∷ decimal c ∷ decimal d ∷ []; counted = refl; parted = simp append_assoc; each = (number_printed a each.0, (number_printed b each.1.0, (number_printed c each.1.1.0, (number_printed d each.1.1.1.0, tt)))) }
ipv4_printed octets len each = absurd (omega arith)

-- ---- groups

-- zeros before a group's text make it four digits
hex_filled : (n : ℕ) → n < 2 ^ 16 → (0 < length (hex n)) × (length (hex n) ≤ 4) × (replicate (4 - length (hex n)) 48 ++ hex n ≡ four_digits n)
unfolding hex
hex_filled n fits = grind (arith, cases_lt, le-leb, lt-leb)

abbrev pair : ℕ → List ℕ
pair n = n / 256 ∷ n % 256 ∷ []

abbrev part : ℕ → AddressPart
part n = record { text = hex n; octets = pair n }

group_printed : (n : ℕ) → n < 2 ^ 16 → IsGroup (part n)
group_printed n fits = grind (arith, hex_filled n fits, four_encoded n fits, decode_sized-encode_lower (pair n) 2 refl (λ i. grind arith))

abbrev AllGroups : List ℕ → Type 0
AllGroups groups = AllByRecursion (λ n. n < 2 ^ 16) groups

parts_printed : (ends : Bool) (groups : List ℕ) → AllGroups groups → AreParts ends (map part groups)
parts_printed ends [] each = tt
parts_printed ends (g ∷ []) each = inl (group_printed g each.0)
parts_printed ends (g ∷ h ∷ groups) each = (group_printed g each.0, parts_printed ends (h ∷ groups) each.1)

groups_parted : (groups : List ℕ) → parted_groups groups ≡ parts_text (map part groups)
groups_parted [] = refl
groups_parted (g ∷ []) = append-nil (hex g)
groups_parted (g ∷ h ∷ groups) = ap (λ t. hex g ++ 58 ∷ t) (groups_parted (h ∷ groups))

abbrev pairs : List ℕ → List ℕ
pairs groups = parts_octets (map part groups)

groups_printed : (ends : Bool) (groups : List ℕ) → AllGroups groups → ArePartsOf ends (parted_groups groups) (pairs groups)
groups_printed ends groups each = record { parts = map part groups; each = parts_printed ends groups each; parted = groups_parted groups; value = refl }

pairs-append : (xs ys : List ℕ) → pairs (xs ++ ys) ≡ pairs xs ++ pairs ys
pairs-append xs ys = grind (arith, common_steps)

length-pairs : (groups : List ℕ) → length (pairs groups) ≡ 2 * length groups
length-pairs [] = refl
length-pairs (g ∷ groups) = omega (arith, length-pairs groups)

zero_pairs : (n : ℕ) → pairs (replicate n 0) ≡ replicate (2 * n) 0
zero_pairs zero = refl
zero_pairs (suc n) = let twice : 2 * suc n ≡ suc (suc (2 * n)) = omega arith in cc (zero_pairs n)

-- the groups of octets
segments_each : (octets : List ℕ) → AreOctets octets → AllGroups (segments_of octets)
segments_each (a ∷ b ∷ octets) each = grind (arith, segments_each octets each.1.1)
segments_each octets each = tt

pub segments_count : (count : ℕ) (octets : List ℕ) → length octets ≡ 2 * count → length (segments_of octets) ≡ count
segments_count zero [] len = refl
segments_count (suc count) (a ∷ b ∷ octets) len = ap suc (segments_count count octets (omega arith))
segments_count count octets len = absurd (omega arith)

segments_back : (count : ℕ) (octets : List ℕ) → length octets ≡ 2 * count → AreOctets octets → pairs (segments_of octets) ≡ octets
segments_back (suc count) (a ∷ b ∷ octets) len each = grind (arith, segments_back count octets (omega arith) each.1.1)
segments_back count [] len each = refl
segments_back count octets len each = absurd (omega arith)

-- groups around a run of zeros
around_printed : (groups octets : List ℕ) (start len : ℕ) → length groups ≡ 8 → AllGroups groups → pairs groups ≡ octets → IsZeroRun groups start len → 1 < len → IsIpv6Address (shortened_groups groups start len) octets
around_printed groups octets start len count each value run long =
    let front = take start groups in
    let back = drop (start + len) groups in
    let split : AllGroups (front ++ drop start groups) = rw (take-append-drop start groups) each in
    let middle : drop start groups ≡ replicate len 0 ++ back = grind (arith, take-append-drop len (drop start groups), drop-drop len start groups) in
    let whole : groups ≡ front ++ (replicate len 0 ++ back) = sym (take-append-drop start groups) ∙ ap (λ t. front ++ t) middle in
    let gap : 16 - length (pairs front) - length (pairs back) ≡ 2 * len = omega (arith, length-pairs front, length-pairs back, length-take-le start groups, length-drop (start + len) groups, run.0) in
    fewer (parted_groups front) (parted_groups back) (append_assoc (parted_groups front) (58 ∷ 58 ∷ []) (parted_groups back)) (record {
      before = pairs front;
      after = pairs back;
      front_parts = groups_printed false front (AllByRecursion-front (λ n. n < 2 ^ 16) front (drop start groups) split);
      back_parts = groups_printed true back (AllByRecursion-back (λ n. n < 2 ^ 16) (take (start + len) groups) back (rw (take-append-drop (start + len) groups) each));
      room = omega (arith, gap, run.0, length-pairs front, length-pairs back, length-take-le start groups, length-drop (start + len) groups);
      value = grind (arith, gap, pairs-append front (replicate len 0 ++ back), pairs-append (replicate len 0) back, zero_pairs len);
    })

pub ipv6_printed : (octets : List ℕ) → length octets ≡ 16 → AreOctets octets → IsIpv6Address (ipv6_text octets) octets
ipv6_printed octets len each =
    let groups = segments_of octets in
    let zeros = (longest_zero_run groups).1 in
    let back = segments_back 8 octets (omega arith) each in
    let fits = segments_each octets each in
    elim (cases_lt 1 zeros) [
      | inl long ↦ rw (lt-ltb 1 zeros long) (around_printed groups octets (longest_zero_run groups).0 zeros (segments_count 8 octets (omega arith)) fits back (IsZeroRun-longest_zero_run groups) long)
      | inr short ↦ rw (le-ltb 1 zeros short) (eight (subst (ArePartsOf true (parted_groups groups)) back (groups_printed true groups fits)) len)
    ]

-- ---- the run that is shortened

pub run_shortened : (octets : List ℕ) (start len : ℕ) → IsShortenedRun (segments_of octets) start len → ipv6_text octets ≡ shortened_groups (segments_of octets) start len
run_shortened octets start len run = grind (arith, IsZeroRun-longest_zero_run, longest_zero_run_first, lt-ltb)

pub none_shortened : (octets : List ℕ) → ((start len : ℕ) → IsShortenedRun (segments_of octets) start len → ⊥) → ipv6_text octets ≡ parted_groups (segments_of octets)
none_shortened octets none = grind (arith, cases_lt, IsZeroRun-longest_zero_run, longest_zero_run_first, le-ltb)

pub run_exists : (groups : List ℕ) (start len : ℕ) → IsZeroRun groups start len → 2 ≤ len → (first longest : ℕ) × IsShortenedRun groups first longest
run_exists groups start len run two = grind (arith, IsZeroRun-longest_zero_run, longest_zero_run_first)

-- ---- the octets of texts

pub ipv4_plain : (octets : List ℕ) → length octets ≡ 4 → AreOctets octets → AllByRecursion IsAddressOctet (ipv4_text octets)
ipv4_plain octets len each = recursion_from_All IsAddressOctet (ipv4_text octets) (All-weaker IsDigitOrDot IsAddressOctet (λ c h. grind arith) (ipv4_text octets) (All-ipv4_text octets (each_below (2 ^ 8) octets (omega arith) each)))

pub ipv6_plain : (octets : List ℕ) → length octets ≡ 16 → AreOctets octets → AllByRecursion IsAddressOctet (ipv6_text octets)
unfolding hex_groups_text
ipv6_plain octets len each = recursion_from_All IsAddressOctet (ipv6_text octets) (All-weaker IsHexOrColon IsAddressOctet (λ c h. grind (arith, cases_lt)) (ipv6_text octets) (All-hex_groups_text (segments_of octets) (each_below (2 ^ 16) (segments_of octets) (omega arith) (segments_each octets each))))

-- ---- no text of an address is empty

text_left : (parts : List AddressPart) → AreParts true parts → 0 < length (parts_octets parts) → 0 < length (parts_text parts)
text_left [] each some = absurd (omega arith)
text_left (p ∷ parts) each some = parts_some true p parts each

pub ipv6_some : (text octets : List ℕ) → IsIpv6Address text octets → 0 < length text
ipv6_some text octets h = grind (arith, text_left, length-append)

pub ruleset plain_addresses = (ipv4_plain, ipv6_plain)

pub ruleset shortened_addresses = (run_shortened, none_shortened, run_exists)
