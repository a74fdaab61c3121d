-- Octets that are strings, each after its length.
use Rattle.zone_rdata.proofs.Common.{[], ◌≡◌, ℕ, zero, suc, ◌+◌, ◌<◌, ◌≤◌, List, ◌∷◌, ◌++◌, length, take, drop, refl, sym, ap, ◌∙◌, arith, length-append, flat_map, take_at, drop_at, take_all, drop_all, take-append-drop, with_length, string_at, AreStrings, strings_by, BeginsWithString, HoldsStrings, BeginsWithField, after_field, Field, length-frames, common_steps, strings_of}
use Rattle.zone_rdata.specs.declared.field.Field.TheVariants as fields

-- one string cut off the beginning
string_cut : (text more : List ℕ) (m : ℕ) → strings_by (suc m) (with_length text ++ more) ≡ text ∷ strings_by m more
string_cut text more m = grind (arith, take_at, drop_at)

strings_by_back : (many : List (List ℕ)) (m : ℕ) → length many ≤ m → strings_by m (flat_map with_length many) ≡ many
strings_by_back many zero fuel = grind (arith, common_steps)
strings_by_back [] (suc m) fuel = refl
strings_by_back (text ∷ many) (suc m) fuel = grind (arith, string_cut, strings_by_back many m)

-- joined strings hold those strings
pub strings_back : (many : List (List ℕ)) → strings_of (flat_map with_length many) ≡ many
unfolding strings_of
strings_back many = strings_by_back many (length (flat_map with_length many)) (length-frames many)

-- nothing is left after the strings
strings_by_len : (m : ℕ) (octets : List ℕ) → length octets ≤ m → length (flat_map with_length (strings_by m octets)) ≡ length octets
strings_by_len zero octets fuel = omega arith
strings_by_len (suc m) [] fuel = refl
strings_by_len (suc m) (c ∷ octets) fuel =
    let parts : length (take c octets) + length (drop c octets) ≡ length octets = sym (length-append (take c octets) (drop c octets)) ∙ ap length (take-append-drop c octets) in
    omega (arith, parts, length-append (take c octets) (flat_map with_length (strings_by m (drop c octets))), strings_by_len m (drop c octets) (omega (arith, parts)))

pub strings_len : (octets : List ℕ) → length (flat_map with_length (strings_of octets)) ≡ length octets
unfolding strings_of
strings_len octets = strings_by_len (length octets) octets (omega arith)

-- more fuel than octets changes nothing
fuel_same : (m n : ℕ) (octets : List ℕ) → length octets ≤ m → length octets ≤ n → strings_by m octets ≡ strings_by n octets
fuel_same zero (suc n) (c ∷ octets) p q = absurd (omega arith)
fuel_same (suc m) zero (c ∷ octets) p q = absurd (omega arith)
fuel_same (suc m) (suc n) (c ∷ octets) p q =
    let parts : length (take c octets) + length (drop c octets) ≡ length octets = sym (length-append (take c octets) (drop c octets)) ∙ ap length (take-append-drop c octets) in
    cc (fuel_same m n (drop c octets) (omega (arith, parts)) (omega (arith, parts)))
fuel_same m n octets p q = refl

strings_next : (c : ℕ) (octets : List ℕ) → strings_of (c ∷ octets) ≡ take c octets ∷ strings_of (drop c octets)
unfolding strings_of
strings_next c octets = grind (arith, common_steps, length-append, take-append-drop, fuel_same)

-- strings begin with a string, and the rest is strings
pub first_string : (octets : List ℕ) → 0 < length octets → HoldsStrings octets → BeginsWithString octets × HoldsStrings (drop (length (with_length (string_at octets))) octets) × (strings_of octets ≡ string_at octets ∷ strings_of (drop (length (with_length (string_at octets))) octets))
first_string octets some held = grind (arith, strings_next, drop_at)

pub no_strings : strings_of [] ≡ []
unfolding strings_of
no_strings = refl

-- a field of strings at the beginning of octets is all of them
pub all_strings : (octets : List ℕ) → AreStrings (strings_of octets) → take (length (flat_map with_length (strings_of octets))) octets ≡ flat_map with_length (strings_of octets) → HoldsStrings octets
all_strings octets are front = grind (arith, strings_len, take_all)

pub some_strings : (octets : List ℕ) → AreStrings (strings_of octets) → 0 < length octets
some_strings octets are = grind (arith, common_steps, no_strings)

pub nothing_later : (octets : List ℕ) → drop (length (flat_map with_length (strings_of octets))) octets ≡ []
nothing_later octets = grind (arith, drop_all, strings_len)

pub nothing_after : (field : Field) (octets rest : List ℕ) → field ≡ fields.Strings → rest ≡ drop (length octets) octets → rest ≡ after_field field octets
nothing_after field octets rest is e = grind (arith, drop_all, nothing_later)

-- octets that begin with a field of strings
pub strings_front : (field : Field) (octets : List ℕ) → field ≡ fields.Strings → BeginsWithField field octets → HoldsStrings octets
strings_front field octets is begins = grind (arith, all_strings)

pub strings_some : (field : Field) (octets : List ℕ) → field ≡ fields.Strings → BeginsWithField field octets → 0 < length octets
strings_some field octets is begins = grind (arith, some_strings)

pub ruleset strings_in_octets = (nothing_after, strings_some, strings_front)
