-- Labels of octets that have digits of their own, by the number of their digits if octets followed
-- each.
use Rattle.zone_set.proofs.Common.{AllByRecursion, AreDigits, Bool, IsPutBefore, List, [], ap, append-nil, append_assoc, arith, drop, eq-eqb, eqb-true, false, false≢true, first_digits, if◌then◌else◌, inl, inr, length, length-take-le, map, min, octets_key, refl, slice_index_or, subst, suc, sym, take, take-append-drop, take-length, true, zero, ℕ, ⊎_elim, ◌*◌, ◌++◌, ◌+◌, ◌-◌, ◌/◌, ◌<◌, ◌==◌, ◌^◌, ◌∙◌, ◌∷◌, ◌≡◌, ◌≤◌, ◌⊎◌}
use Rattle.std.proofs.Math.Nat.{add-mul, div-div-eq-div-mul, div-eq_of_lt, div-le_self, mul-le-mul_right, mul_assoc, mul_comm, one-le-pow, pow-suc}
use Rattle.std.proofs.lemmas.Bool.{agree_below_at}
use Rattle.std.proofs.lemmas.Nat.{pow-add}
use Rattle.std.proofs.lemmas.Nat.Bits.{bit_at-zero, bit_at_and, bit_at_cat_high, bit_at_cat_low, bit_at_lowest}
use Rattle.std.specs.Int.{bit_at}
use Rattle.std.specs.Prelude.{bit_and, ◌%◌}
use Rattle.zone_set.proofs.Hints.Digits.{fewer_digits, first_digits-bound, put_digit}
use Rattle.zone_set.proofs.Hints.LabelKey.{inner_low, octets_low, own_more, own_step}
use Rattle.zone_set.specs.Machine.LabelKey.{inner_digit, labels_key, last_digit, octet_digit, own_below}

-- an octet has digits of its own
abbrev IsOwn : ℕ → Type 0
IsOwn c = (own_below c == own_below (c + 1)) ≡ false

abbrev AreOwn : List ℕ → Type 0
AreOwn octets = AllByRecursion IsOwn octets

-- which are two, one after the other
own_next : (c : ℕ) → IsOwn c → inner_digit c ≡ last_digit c + 1
own_next c own =
    let more = own_more c (c + 1) (omega arith) in
    let step = own_step c in
    let apart : own_below c ≡ own_below (c + 1) → ⊥ = λ same. false≢true (sym own ∙ eq-eqb (own_below c) (own_below (c + 1)) same) in
    omega (arith, more, step, apart)

-- the digit of one whose digit is even
own_of_even : (c : ℕ) → inner_digit c % 2 ≡ 0 → IsOwn c
own_of_even c even = by (own_below c == own_below (c + 1)) refl
  where
    by : (shared : Bool) → (own_below c == own_below (c + 1)) ≡ shared → (own_below c == own_below (c + 1)) ≡ false
    by true is = let same = eqb-true (own_below c) (own_below (c + 1)) is in absurd (omega (arith, even, same))
    by false is = is

evens_own : (n : ℕ) (octets : List ℕ) → AllByRecursion (λ d. d % 2 ≡ 0) (take n (map inner_digit octets)) → AreOwn (take n octets)
evens_own zero octets evens = tt
evens_own (suc n) [] evens = tt
evens_own (suc n) (c ∷ octets) evens = (own_of_even c evens.0, evens_own n octets evens.1)

inners_low : (octets : List ℕ) → AreDigits (map inner_digit octets)
inners_low [] = tt
inners_low (c ∷ octets) = (inner_low c, inners_low octets)

pub pow_seven : (n : ℕ) → 128 ^ n ≡ 2 ^ (7 * n)
pow_seven zero = refl
pow_seven (suc n) = pow-suc 128 n ∙ ap (λ p. p * 128) (pow_seven n) ∙ sym (pow-add 2 (7 * n) 7) ∙ ap (λ m. 2 ^ m) (omega arith)

-- ---- which digits are even

even_digits : (n : ℕ) (digits : List ℕ) → AreDigits digits → ((j : ℕ) → j < n → bit_at (first_digits n digits) (7 * j) ≡ 0) → AllByRecursion (λ d. d % 2 ≡ 0) (take n digits)
even_digits zero digits low bits = tt
even_digits (suc n) [] low bits = tt
even_digits (suc n) (d ∷ digits) low bits =
    let rest = first_digits n digits in
    let same : first_digits (suc n) (d ∷ digits) ≡ d * 2 ^ (7 * n) + rest = ap (λ p. d * p + rest) (pow_seven n) in
    let within : rest < 2 ^ (7 * n) = subst (λ p. rest < p) (pow_seven n) (first_digits-bound n digits low.1) in
    let none : 7 * n - 7 * n ≡ 0 = omega arith in
    let lowest : bit_at d (7 * n - 7 * n) ≡ d % 2 = ap (bit_at d) none ∙ bit_at_lowest d in
    let first : d % 2 ≡ 0 = sym lowest ∙ sym (bit_at_cat_high d (7 * n) rest (7 * n) within (omega arith)) ∙ ap (λ m. bit_at m (7 * n)) (sym same) ∙ bits n (omega arith) in
    (first, even_digits n digits low.1 (λ j lt. sym (bit_at_cat_low d (7 * n) rest (7 * j) (omega (arith, lt))) ∙ ap (λ m. bit_at m (7 * j)) (sym same) ∙ bits j (omega (arith, lt))))

-- n digits of 1
abbrev ones : ℕ → ℕ
ones zero = 0
ones (suc n) = 128 ^ n + ones n

-- the lowest bits of nine digits
abbrev pub lowest_bits : ℕ
lowest_bits = ones 9

lowest_is : (j : ℕ) → j < 9 → bit_at lowest_bits (7 * j) ≡ 1
lowest_is j lt = eqb-true (bit_at lowest_bits (7 * j)) 1 (agree_below_at (λ j. bit_at lowest_bits (7 * j) == 1) (λ j. true) 9 j refl lt)

none_lowest : (number j : ℕ) → j < 9 → bit_and number lowest_bits ≡ 0 → bit_at number (7 * j) ≡ 0
none_lowest number j lt none =
    let both : min (bit_at number (7 * j)) (bit_at lowest_bits (7 * j)) ≡ 0 = sym (bit_at_and number lowest_bits (7 * j)) ∙ ap (λ m. bit_at m (7 * j)) none ∙ bit_at-zero (7 * j) in
    let is = lowest_is j lt in
    omega (arith, both, is)

-- where the number of at most nine has none, the octets have digits of their own
own_first : (n : ℕ) (octets : List ℕ) → n ≤ 9 → bit_and (first_digits n (map inner_digit octets)) lowest_bits ≡ 0 → AreOwn (take n octets)
own_first n octets few none =
    evens_own n octets (even_digits n (map inner_digit octets) (inners_low octets) (λ j lt. none_lowest (first_digits n (map inner_digit octets)) j (omega (arith, lt, few)) none))

-- ---- a label before digits

after_own : (c : ℕ) (digits : List ℕ) → IsOwn c → (if own_below c == own_below (c + 1) then [] else digits) ≡ digits
after_own c digits own = ap (λ s. if s then [] else digits) own

join : (a n m j b x y : ℕ) → j ≡ n + m → x + 128 ^ m ≡ b * 128 ^ m + y → a * 128 ^ j + x + 128 ^ m ≡ (a * 128 ^ n + b) * 128 ^ m + y
join a n m j b x y is rest =
    let power : a * 128 ^ j ≡ a * 128 ^ n * 128 ^ m = ap (λ k. a * 128 ^ k) is ∙ ap (λ p. a * p) (pow-add 128 n m) ∙ sym (mul_assoc a (128 ^ n) (128 ^ m)) in
    let both : (a * 128 ^ n + b) * 128 ^ m ≡ a * 128 ^ n * 128 ^ m + b * 128 ^ m = add-mul (a * 128 ^ n) b (128 ^ m) in
    omega (arith, power, both, rest)

own_key : (k m : ℕ) (label digits : List ℕ) → 0 < length label → k ≡ length label + m → AreOwn label
    → first_digits k (octets_key label digits) + 128 ^ m ≡ first_digits (length label) (map inner_digit label) * 128 ^ m + first_digits m digits
own_key k m [] digits some is own = absurd (omega (arith, some))
own_key zero m (c ∷ label) digits some is own = absurd (omega (arith, is))
own_key (suc j) m (c ∷ []) digits some is own =
    let same : j ≡ m = omega (arith, is) in
    let next = own_next c own.0 in
    let more : first_digits j (if own_below c == own_below (c + 1) then [] else digits) ≡ first_digits m digits = ap (first_digits j) (after_own c digits own.0) ∙ ap (λ n. first_digits n digits) same in
    let power : last_digit c * 128 ^ j ≡ last_digit c * 128 ^ m = ap (λ n. last_digit c * 128 ^ n) same in
    let both : (last_digit c + 1) * 128 ^ m ≡ last_digit c * 128 ^ m + 1 * 128 ^ m = add-mul (last_digit c) 1 (128 ^ m) in
    let first : (inner_digit c * 1 + 0) * 128 ^ m ≡ (last_digit c + 1) * 128 ^ m = ap (λ d. d * 128 ^ m) (omega (arith, next)) in
    omega (arith, more, power, both, first)
own_key (suc j) m (c ∷ (d ∷ label)) digits some is own =
    let rest = own_key j m (d ∷ label) digits (omega arith) (omega (arith, is)) own.1 in
    let more : first_digits j (if own_below c == own_below (c + 1) then [] else octets_key (d ∷ label) digits) ≡ first_digits j (octets_key (d ∷ label) digits) = ap (first_digits j) (after_own c (octets_key (d ∷ label) digits) own.0) in
    ap (λ x. inner_digit c * 128 ^ j + x + 128 ^ m) more
    ∙ join (inner_digit c) (length (d ∷ label)) m j (first_digits (length (d ∷ label)) (map inner_digit (d ∷ label))) (first_digits j (octets_key (d ∷ label) digits)) (first_digits m digits) (omega (arith, is)) rest

pub some_digits : (label : List ℕ) → 0 < length label → 0 < first_digits (length label) (map inner_digit label)
some_digits [] some = absurd (omega (arith, some))
some_digits (c ∷ label) some =
    let n = length label in
    let least : 1 ≤ inner_digit c = omega arith in
    let one = one-le-pow n 128 (omega arith) in
    let more : 1 * 128 ^ n ≤ inner_digit c * 128 ^ n = mul-le-mul_right (128 ^ n) least in
    let all : first_digits (length (c ∷ label)) (map inner_digit (c ∷ label)) ≡ inner_digit c * 128 ^ n + first_digits n (map inner_digit label) = refl in
    omega (arith, one, more, all)

-- fewer than nine octets
pub put_own_is : (label digits : List ℕ) (d s after : ℕ) → 0 < length label → 7 * length label + s ≡ 63 → d ≡ first_digits (length label) (map inner_digit label) → bit_and d lowest_bits ≡ 0
    → AreDigits digits → after ≡ first_digits 9 digits → (d - 1) * 2 ^ s + after / 2 ^ (63 - s) ≡ first_digits 9 (octets_key label digits)
put_own_is label digits d s after some room is none low was =
    let n = length label in
    let m = 9 - n in
    let all : 9 ≡ n + m = omega (arith, room) in
    let few : n ≤ 9 = omega (arith, room) in
    let own = subst AreOwn (take-length label) (own_first n label few (subst (λ x. bit_and x lowest_bits ≡ 0) is none)) in
    let key = own_key 9 m label digits some all own in
    let front : 2 ^ s ≡ 128 ^ m = let same : s ≡ 7 * m = omega (arith, room) in ap (λ k. 2 ^ k) same ∙ sym (pow_seven m) in
    let back : 2 ^ (63 - s) ≡ 128 ^ n = let same : 63 - s ≡ 7 * n = omega (arith, room) in ap (λ k. 2 ^ k) same ∙ sym (pow_seven n) in
    let rest : first_digits m digits ≡ after / 2 ^ (63 - s) = fewer_digits m n 9 digits (sym all) low ∙ ap (λ x. x / 128 ^ n) (sym was) ∙ ap (λ p. after / p) (sym back) in
    let least : 1 ≤ d = subst (λ x. 0 < x) (sym is) (some_digits label some) in
    let one : d ≡ d - 1 + 1 = omega (arith, least) in
    let parts : d * 128 ^ m ≡ (d - 1) * 128 ^ m + 1 * 128 ^ m = ap (λ x. x * 128 ^ m) one ∙ add-mul (d - 1) 1 (128 ^ m) in
    let whole : first_digits (length label) (map inner_digit label) * 128 ^ m ≡ d * 128 ^ m = ap (λ x. x * 128 ^ m) (sym is) in
    let shifted : (d - 1) * 2 ^ s ≡ (d - 1) * 128 ^ m = ap (λ p. (d - 1) * p) front in
    omega (arith, key, rest, parts, whole, shifted)

key_front : (n : ℕ) (label digits : List ℕ) → n < length label → AreOwn (take n label) → first_digits n (octets_key label digits) ≡ first_digits n (map inner_digit label)
key_front zero label digits lt own = refl
key_front (suc n) [] digits lt own = absurd (omega (arith, lt))
key_front (suc n) (c ∷ []) digits lt own = absurd (omega (arith, lt))
key_front (suc n) (c ∷ (d ∷ label)) digits lt own =
    ap (λ m. inner_digit c * 128 ^ n + m)
    (ap (first_digits n) (after_own c (octets_key (d ∷ label) digits) own.0) ∙ key_front n (d ∷ label) digits (omega (arith, lt)) own.1)

-- nine octets, and more
pub put_nine_is : (label digits : List ℕ) (d : ℕ) → length label ≡ 9 → d ≡ first_digits 9 (map inner_digit label) → bit_and d lowest_bits ≡ 0
    → AreDigits digits → d - 1 ≡ first_digits 9 (octets_key label digits)
put_nine_is label digits d nine is none low =
    let put = put_own_is label digits d 0 (first_digits 9 digits) (omega (arith, nine)) (omega (arith, nine)) (is ∙ ap (λ n. first_digits n (map inner_digit label)) (sym nine)) none low refl in
    let gone : first_digits 9 digits / 2 ^ (63 - 0) ≡ 0 = div-eq_of_lt (first_digits-bound 9 digits low) in
    omega (arith, put, gone)

pub put_more_is : (label digits : List ℕ) (d : ℕ) → 9 < length label → d ≡ first_digits 9 (map inner_digit label) → bit_and d lowest_bits ≡ 0
    → d ≡ first_digits 9 (octets_key label digits)
put_more_is label digits d long is none =
    is ∙ sym (key_front 9 label digits long (own_first 9 label (omega arith) (subst (λ x. bit_and x lowest_bits ≡ 0) is none)))

-- ---- labels of one octet each

ones_key : (n : ℕ) (octets : List ℕ) → length octets ≡ n → AreOwn octets → first_digits n (labels_key (map (λ c. c ∷ []) octets) []) + ones n ≡ first_digits n (map inner_digit octets)
ones_key zero octets is own = refl
ones_key (suc n) [] is own = absurd (omega (arith, is))
ones_key (suc n) (c ∷ octets) is own =
    let rest = ones_key n octets (omega (arith, is)) own.1 in
    let all = labels_key (map (λ c. c ∷ []) octets) [] in
    let more : first_digits n (if own_below c == own_below (c + 1) then [] else all) ≡ first_digits n all = ap (first_digits n) (after_own c all own.0) in
    let next : inner_digit c * 128 ^ n ≡ last_digit c * 128 ^ n + 1 * 128 ^ n = ap (λ d. d * 128 ^ n) (own_next c own.0) ∙ add-mul (last_digit c) 1 (128 ^ n) in
    omega (arith, rest, more, next)

pub nine_ones : (octets : List ℕ) (d : ℕ) → length octets ≡ 9 → d ≡ first_digits 9 (map inner_digit octets) → bit_and d lowest_bits ≡ 0
    → d - lowest_bits ≡ first_digits 9 (labels_key (map (λ c. c ∷ []) octets) [])
nine_ones octets d nine is none =
    let whole : take 9 octets ≡ octets = ap (λ n. take n octets) (sym nine) ∙ take-length octets in
    let own = subst AreOwn whole (own_first 9 octets (omega arith) (subst (λ x. bit_and x lowest_bits ≡ 0) is none)) in
    let key = ones_key 9 octets nine own in
    omega (arith, key, is)

-- ---- octet by octet, from the last

-- what was put of a label: the octets after those that are left
pub record IsPutFrom (label left : List ℕ) (after key ended : ℕ) : Type 0 where
  pub done : List ℕ
  pub parts : label ≡ left ++ done
  pub put : IsPutBefore done after key
  pub ends : ((done ≡ []) × (ended ≡ 1)) ⊎ ((0 < length done) × (ended ≡ 0))

pub put_none : (label : List ℕ) (after : ℕ) → IsPutFrom label label after after 1
put_none label after = record { done = []; parts = sym (append-nil label); put = λ digits low is. is; ends = inl (refl, refl) }

pub put_all : (label : List ℕ) (after key ended : ℕ) → IsPutFrom label [] after key ended → IsPutBefore label after key
put_all label after key ended from = subst (λ l. IsPutBefore l after key) (sym from.parts) from.put

own_even : (c : ℕ) → IsOwn c → inner_digit c % 2 ≡ 0
own_even c own = let next = own_next c own in omega (arith, next)

-- the digit that is put
put_octet_digit : (c : ℕ) (done : List ℕ) (ended : ℕ) → IsOwn c → ((done ≡ []) × (ended ≡ 1)) ⊎ ((0 < length done) × (ended ≡ 0)) → inner_digit c - ended ≡ octet_digit c done
put_octet_digit c [] ended own ends = let next = own_next c own in ⊎_elim (λ none. omega (arith, none.1, next)) (λ some. absurd (omega (arith, some.0))) ends
put_octet_digit c (d ∷ done) ended own ends = ⊎_elim (λ none. let no : suc (length done) ≡ 0 = ap length none.0 in absurd (omega (arith, no))) (λ some. omega (arith, some.1)) ends

shared_digit : (c : ℕ) (done : List ℕ) → (own_below c == own_below (c + 1)) ≡ true → octet_digit c done ≡ inner_digit c
shared_digit c [] shared = let same = eqb-true (own_below c) (own_below (c + 1)) shared in omega (arith, same)
shared_digit c (d ∷ done) shared = refl

pub put_own_octet : (label left front : List ℕ) (c after key ended : ℕ) → IsPutFrom label left after key ended → left ≡ front ++ c ∷ [] → inner_digit c % 2 ≡ 0
    → IsPutFrom label front after ((inner_digit c - ended) * 2 ^ 56 + key / 128) 0
put_own_octet label left front c after key ended from cut even =
    let own = own_of_even c even in
    record {
      done = c ∷ from.done;
      parts = from.parts ∙ ap (λ l. l ++ from.done) cut ∙ append_assoc front (c ∷ []) from.done;
      put = λ digits low is.
          let more = octets_key from.done digits in
          ap (λ d. d * 2 ^ 56 + key / 128) (put_octet_digit c from.done ended own from.ends)
          ∙ put_digit (octet_digit c from.done) key more (octets_low from.done digits low) (from.put digits low is)
          ∙ ap (λ t. first_digits 9 (octet_digit c from.done ∷ t)) (sym (after_own c more own));
      ends = inr (omega arith, refl);
    }

pub put_shared_octet : (label left front : List ℕ) (c after key ended : ℕ) → IsPutFrom label left after key ended → left ≡ front ++ c ∷ [] → (inner_digit c % 2 ≡ 0 → ⊥)
    → IsPutFrom label front after (inner_digit c * 2 ^ 56) 0
put_shared_octet label left front c after key ended from cut odd =
    by (own_below c == own_below (c + 1)) refl
  where
    by : (shared : Bool) → (own_below c == own_below (c + 1)) ≡ shared → IsPutFrom label front after (inner_digit c * 2 ^ 56) 0
    by false is = absurd (odd (own_even c is))
    by true is = record {
      done = c ∷ from.done;
      parts = from.parts ∙ ap (λ l. l ++ from.done) cut ∙ append_assoc front (c ∷ []) from.done;
      put = λ digits low was.
          let more = octets_key from.done digits in
          let none : (if own_below c == own_below (c + 1) then [] else more) ≡ [] = ap (λ s. if s then [] else more) is in
          let all : inner_digit c * 2 ^ 56 ≡ inner_digit c * 128 ^ 8 + 0 = omega arith in
          all ∙ ap (λ d. d * 128 ^ 8 + 0) (sym (shared_digit c from.done is))
          ∙ ap (λ t. first_digits 9 (octet_digit c from.done ∷ t)) (sym none);
      ends = inr (omega arith, refl);
    }

-- ---- what is put has room

pub own_room : (n s d after : ℕ) → 0 < n → 7 * n + s ≡ 63 → d < 128 ^ n → after < 2 ^ 64 → ((d - 1) * 2 ^ s < 2 ^ 63) × (after / 2 ^ (63 - s) < 2 ^ 63)
own_room zero s d after some room low fits = absurd (omega (arith, some))
own_room (suc n) s d after some room low fits =
    let all : 7 * suc n + s ≡ 63 = room in
    let most : suc (d - 1) * 2 ^ s ≤ 128 ^ suc n * 2 ^ s = mul-le-mul_right (2 ^ s) (omega (arith, low, one-le-pow (suc n) 128 (omega arith))) in
    let whole : 128 ^ suc n * 2 ^ s ≡ 2 ^ 63 = ap (λ p. p * 2 ^ s) (pow_seven (suc n)) ∙ sym (pow-add 2 (7 * suc n) s) ∙ ap (λ k. 2 ^ k) all in
    let more : suc (d - 1) * 2 ^ s ≡ (d - 1) * 2 ^ s + 1 * 2 ^ s = ap (λ x. x * 2 ^ s) (omega arith) ∙ add-mul (d - 1) 1 (2 ^ s) in
    let one = one-le-pow s 2 (omega arith) in
    let back : 2 ^ (63 - s) ≡ 128 * 128 ^ n = let same : 63 - s ≡ 7 * suc n = omega (arith, room) in ap (λ k. 2 ^ k) same ∙ sym (pow_seven (suc n)) ∙ pow-suc 128 n ∙ mul_comm (128 ^ n) 128 in
    let parts : after / 2 ^ (63 - s) ≡ after / 128 / 128 ^ n = ap (λ p. after / p) back ∙ sym (div-div-eq-div-mul after 128 (128 ^ n)) in
    let less = div-le_self (after / 128) (128 ^ n) in
    (omega (arith, most, whole, more, one), omega (arith, parts, less, fits))

pub own_bound : (label : List ℕ) → first_digits (length label) (map inner_digit label) < 128 ^ length label
own_bound label = first_digits-bound (length label) (map inner_digit label) (inners_low label)

pub some_of_nine : (label : List ℕ) → 9 ≤ length label → 0 < first_digits 9 (map inner_digit label)
some_of_nine [] long = absurd (omega (arith, long))
some_of_nine (c ∷ label) long = omega arith

-- ---- the octets of a label as they are read

abbrev pub nth : List ℕ → ℕ → ℕ
nth octets k = slice_index_or octets k 0

-- as many values as said, from the first on
abbrev pub firsts : ℕ → (ℕ → ℕ) → List ℕ
firsts zero f = []
firsts (suc n) f = f 0 ∷ firsts n (λ k. f (suc k))

pub firsts_is : (n : ℕ) (octets : List ℕ) → n ≤ length octets → octets ≡ firsts n (nth octets) ++ drop n octets
firsts_is zero octets within = refl
firsts_is (suc n) [] within = absurd (omega (arith, within))
firsts_is (suc n) (c ∷ octets) within = ap (λ t. c ∷ t) (firsts_is n octets (omega (arith, within)))

pub all_firsts : (n : ℕ) (octets : List ℕ) → length octets ≡ n → octets ≡ firsts n (nth octets)
all_firsts zero [] is = refl
all_firsts zero (c ∷ octets) is = absurd (omega (arith, is))
all_firsts (suc n) [] is = absurd (omega (arith, is))
all_firsts (suc n) (c ∷ octets) is = ap (λ t. c ∷ t) (all_firsts n octets (omega (arith, is)))

-- the digits of as many octets as said
pub number_of : (n m : ℕ) (octets : List ℕ) → n ≡ m → m ≤ length octets → first_digits n (map inner_digit octets) ≡ first_digits m (map inner_digit (firsts m (nth octets) ++ drop m octets))
number_of n m octets is within = ap (λ k. first_digits k (map inner_digit octets)) is ∙ ap (λ l. first_digits m (map inner_digit l)) (firsts_is m octets within)

-- the first four octets and what follows
abbrev AreFourAndRest : List ℕ → List ℕ → List ℕ → Type 0
AreFourAndRest octets front rest = (front ≡ take 4 octets) × (rest ≡ drop 4 octets) × (length rest + 4 ≡ length octets)

-- the digits of the four and of k that follow
pub number_of_parts : (k : ℕ) (octets front rest : List ℕ) → AreFourAndRest octets front rest → k ≤ length rest
    → first_digits (4 + k) (map inner_digit octets) ≡ first_digits (4 + k) (map inner_digit (firsts 4 (nth front) ++ (firsts k (nth rest) ++ drop k rest)))
number_of_parts k octets front rest cut within =
    let four : length front ≡ 4 = ap length cut.0 ∙ length-take-le 4 octets (omega (arith, cut.2)) in
    let begins : front ≡ firsts 4 (nth front) = all_firsts 4 front four in
    let parts : octets ≡ front ++ rest = sym (take-append-drop 4 octets) ∙ ap (λ t. t ++ drop 4 octets) (sym cut.0) ∙ ap (λ t. front ++ t) (sym cut.1) in
    let ends : rest ≡ firsts k (nth rest) ++ drop k rest = firsts_is k rest within in
    ap (λ l. first_digits (4 + k) (map inner_digit l)) (parts ∙ ap (λ t. t ++ rest) begins ∙ ap (λ t. firsts 4 (nth front) ++ t) ends)

-- which are all
pub number_of_all : (k : ℕ) (octets front rest : List ℕ) → AreFourAndRest octets front rest → length rest ≡ k
    → first_digits (length octets) (map inner_digit octets) ≡ first_digits (4 + k) (map inner_digit (firsts 4 (nth front) ++ (firsts k (nth rest) ++ drop k rest)))
number_of_all k octets front rest cut is =
    let all : length octets ≡ 4 + k = omega (arith, cut.2, is) in
    ap (λ n. first_digits n (map inner_digit octets)) all ∙ number_of_parts k octets front rest cut (omega (arith, is))
