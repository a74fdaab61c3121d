-- The words that are written anew are tokens, and no line feed stands in them.
use Rattle.zone_words.proofs.Common.{AllByRecursion, AllByRecursion-append, Bool, IsToken, IsUnit, List, Token, [], arith, codes, common_steps, digit_glyph, digits, digits_onto, encode_lower, encode_with, ends_item, escaped, false, generic_tokens, if◌then◌else◌, length, length-map, lower_digits, map, nat_lt, nat_tests, plain, refl, slice_index, suc, true, type_token, word, zero, ℕ, ◌%◌, ◌++◌, ◌+◌, ◌/◌, ◌<◌, ◌==◌, ◌∷◌, ◌≡◌, ◌≢◌, ◌≤◌}
use Rattle.zone_text.proofs.Common.{bare}
use Rattle.std.specs.Prelude.{decimal}

-- an octet that stands for itself in a bare item
abbrev pub IsPlain : ℕ → Type 0
IsPlain c = (ends_item c ≡ false) × (c ≢ 92)

abbrev pub ArePlain : List ℕ → Type 0
ArePlain text = AllByRecursion IsPlain text

plain_between : (c : ℕ) → 48 ≤ c → c ≢ 59 → c ≢ 92 → IsPlain c
plain_between c low semicolon backslash = grind (arith, nat_tests)

plain_glyph : (d : ℕ) (b : Bool) → nat_lt d 10 ≡ b → IsPlain (if b then 48 + d else 87 + d)
plain_glyph d true e = plain_between (48 + d) (omega arith) (λ f. (let h : d < 10 = grind (arith, nat_tests) in omega arith)) (λ f. (let h : d < 10 = grind (arith, nat_tests) in omega arith))
plain_glyph d false e = plain_between (87 + d) (omega arith) (λ f. omega arith) (λ f. (let h : 10 ≤ d = grind (arith, nat_tests) in omega arith))

either_plain : (b : Bool) (xs ys : List ℕ) → ArePlain xs → ArePlain ys → ArePlain (if b then xs else ys)
either_plain true xs ys x y = x
either_plain false xs ys x y = y

plain_onto : (k n : ℕ) (acc : List ℕ) → ArePlain acc → ArePlain (digits_onto k 10 false n acc)
plain_onto zero n acc each = each
plain_onto (suc k) n acc each =
    either_plain (n / 10 == 0) (digit_glyph false (n % 10) ∷ acc) (digits_onto k 10 false (n / 10) (digit_glyph false (n % 10) ∷ acc))
    (plain_glyph (n % 10) (nat_lt (n % 10) 10) refl, each)
    (plain_onto k (n / 10) (digit_glyph false (n % 10) ∷ acc) (plain_glyph (n % 10) (nat_lt (n % 10) 10) refl, each))

pub plain_decimal : (n : ℕ) → ArePlain (decimal n)
unfolding digits
plain_decimal n = plain_onto 64 n [] tt

either_some : (b : Bool) (xs ys : List ℕ) → 0 < length xs → 0 < length ys → 0 < length (if b then xs else ys)
either_some true xs ys x y = x
either_some false xs ys x y = y

some_onto : (k n : ℕ) (acc : List ℕ) → 0 < length acc → 0 < length (digits_onto k 10 false n acc)
some_onto zero n acc some = some
some_onto (suc k) n acc some =
    either_some (n / 10 == 0) (digit_glyph false (n % 10) ∷ acc) (digits_onto k 10 false (n / 10) (digit_glyph false (n % 10) ∷ acc))
    (omega arith) (some_onto k (n / 10) (digit_glyph false (n % 10) ∷ acc) (omega arith))

pub some_decimal : (n : ℕ) → 0 < length (decimal n)
unfolding digits
some_decimal n =
    either_some (n / 10 == 0) (digit_glyph false (n % 10) ∷ []) (digits_onto 63 10 false (n / 10) (digit_glyph false (n % 10) ∷ []))
    (omega arith) (some_onto 63 (n / 10) (digit_glyph false (n % 10) ∷ []) (omega arith))

plain_index : (l : List ℕ) (i : ℕ) → ArePlain l → IsPlain (slice_index l i)
plain_index l i each = grind (arith, common_steps)

plain_digits : ArePlain lower_digits
plain_digits = by_tests
  where
    by_tests : ArePlain (codes "0123456789abcdef")
    by_tests = grind arith

pub plain_hex : (octets : List ℕ) → ArePlain (encode_lower octets)
unfolding encode_with
plain_hex [] = tt
plain_hex (c ∷ octets) = (plain_index lower_digits (c / 16) plain_digits, (plain_index lower_digits (c % 16) plain_digits, plain_hex octets))

-- ---- their tokens

plain_units : (octets : List ℕ) → ArePlain octets → AllByRecursion (IsUnit ends_item) (map plain octets)
plain_units [] each = tt
plain_units (c ∷ octets) each = (each.0, plain_units octets each.1)

pub word_token : (octets : List ℕ) → 0 < length octets → ArePlain octets → IsToken (word octets)
word_token octets some each = (omega (arith, length-map octets plain), plain_units octets each)

pub type_is : (number : ℕ) → IsToken (type_token number)
type_is number = word_token (codes "TYPE" ++ decimal number) (omega arith) (AllByRecursion-append IsPlain (codes "TYPE") (decimal number) (grind arith) (plain_decimal number))

pub mark_is : IsToken (bare (escaped 35 ∷ []))
mark_is = (omega arith, ((refl, (λ e. omega arith), (λ e. omega arith)), tt))

pub hex_some : (c : ℕ) (octets : List ℕ) → 0 < length (encode_lower (c ∷ octets))
unfolding encode_with
hex_some c octets = omega arith

pub generic_are : (number : ℕ) (octets : List ℕ) (more : List Token) → AllByRecursion IsToken more → AllByRecursion IsToken (generic_tokens number octets ++ more)
generic_are number [] more each = (type_is number, (refl, (mark_is, (refl, (word_token (decimal 0) (some_decimal 0) (plain_decimal 0), each)))))
generic_are number (c ∷ octets) more each =
    (type_is number, (refl, (mark_is, (refl, (word_token (decimal (length (c ∷ octets))) (some_decimal (length (c ∷ octets))) (plain_decimal (length (c ∷ octets))), (refl, (word_token (encode_lower (c ∷ octets)) (hex_some c octets) (plain_hex (c ∷ octets)), each)))))))
