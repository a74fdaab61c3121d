-- Digits of base32hex, read one after the other, and that they stand for one list of octets.
use Rattle.std.proofs.lemmas.Nat.{pow_pos}
use Rattle.type_data.proofs.Common.{AllByRecursion-append, AllZip, AllZip-get_or, AllZip-push, AppendsStated, AreOctets, List, None, NothingStated, Option, Some, TooLong, WordsFault, [], add-zero, ap, append-nil, append_assoc, arith, fold, get_or, length, length-append, length_all_zip, refl, subst, suc, sym, take, take_all, take_more, zero, ℕ, ◌%◌, ◌*◌, ◌++◌, ◌+◌, ◌-◌, ◌/◌, ◌<◌, ◌^◌, ◌∙◌, ◌∷◌, ◌≡◌, ◌≤◌}
use Rattle.type_data.proofs.OfParameters.Lists.{zip_once}
use Rattle.type_data.specs.Kinds.AfterLength.{of_no_octets, of_too_many}
use Rattle.type_data.specs.Kinds.Hash.{FailsHash, IsBase32Hex, base32_digit, number_of}
use Rattle.type_data.specs.declared.fault.WordsFault.TheVariants.{NoBase32Hex}

abbrev pub IsDigit : ℕ → ℕ → Type 0
IsDigit c d = base32_digit c ≡ Some d

digit_small : (c v : ℕ) → IsDigit c v → v < 32
digit_small c v h = grind (arith)

-- ---- lists side by side

one_digit : (c a b : ℕ) → IsDigit c a → IsDigit c b → a ≡ b
one_digit c a b x y = cc (sym x ∙ y)

-- ---- digits as one number

abbrev number_from : ℕ → ℕ → List ℕ → ℕ
number_from base n digits = fold (λ n d. n * base + d) n digits

number_more_from : (base n : ℕ) (digits : List ℕ) (d : ℕ) → number_from base n (digits ++ d ∷ []) ≡ number_from base n digits * base + d
number_more_from base n [] d = refl
number_more_from base n (c ∷ digits) d = number_more_from base (n * base + c) digits d

-- one number has one list of so many octets
number_once_from : (n m : ℕ) (a b : List ℕ) → length a ≡ length b → AreOctets a → AreOctets b → number_from 256 n a ≡ number_from 256 m b → (n ≡ m) × (a ≡ b)
number_once_from n m [] [] len x y same = (same, refl)
number_once_from n m [] (d ∷ b) len x y same = absurd (omega arith)
number_once_from n m (c ∷ a) [] len x y same = absurd (omega arith)
number_once_from n m (c ∷ a) (d ∷ b) len x y same =
    let rest = number_once_from (n * 256 + c) (m * 256 + d) a b (omega arith) x.1 y.1 same in
    let first : c ≡ d = omega (arith, rest.0, x.0, y.0) in
    (omega (arith, rest.0, x.0, y.0), rw (first, rest.1) refl)

-- ---- bits of digits that fill no octet yet

kept_number : (count bits v n o : ℕ) → count < 3 → n ≡ o * 2 ^ count + bits → n * 32 + v ≡ o * 2 ^ (count + 5) + (bits * 32 + v)
kept_number zero bits v n o few same = omega arith
kept_number (suc zero) bits v n o few same = omega arith
kept_number (suc (suc zero)) bits v n o few same = omega arith
kept_number (suc (suc (suc count))) bits v n o few same = absurd (omega arith)

kept_low : (count bits v : ℕ) → count < 3 → bits < 2 ^ count → v < 32 → bits * 32 + v < 2 ^ (count + 5)
kept_low zero bits v few low small = omega arith
kept_low (suc zero) bits v few low small = omega arith
kept_low (suc (suc zero)) bits v few low small = omega arith
kept_low (suc (suc (suc count))) bits v few low small = absurd (omega arith)

-- an octet is filled, and k bits are left
pub record Fills (k all n o : ℕ) : Type 0 where
  pub number : n ≡ (o * 256 + all / 2 ^ k) * 2 ^ k + all % 2 ^ k
  pub octet : all / 2 ^ k < 256
  pub low : all % 2 ^ k < 2 ^ k

fills : (k bits v n o : ℕ) → k < 5 → bits < 2 ^ (k + 3) → v < 32 → n ≡ o * 2 ^ (k + 3) + bits → Fills k (bits * 32 + v) (n * 32 + v) o
fills zero bits v n o few low small same = record { number = omega arith; octet = omega arith; low = omega arith }
fills (suc zero) bits v n o few low small same = record { number = omega arith; octet = omega arith; low = omega arith }
fills (suc (suc zero)) bits v n o few low small same = record { number = omega arith; octet = omega arith; low = omega arith }
fills (suc (suc (suc zero))) bits v n o few low small same = record { number = omega arith; octet = omega arith; low = omega arith }
fills (suc (suc (suc (suc zero)))) bits v n o few low small same = record { number = omega arith; octet = omega arith; low = omega arith }
fills (suc (suc (suc (suc (suc k))))) bits v n o few low small same = absurd (omega arith)

-- unused bits are zero where numbers differ by them alone
no_bits : (k m n bits : ℕ) → k < 5 → m * 2 ^ k ≡ n * 2 ^ k + bits → bits < 2 ^ k → (bits ≡ 0) × (m ≡ n)
no_bits zero m n bits few same low = (omega arith, omega arith)
no_bits (suc zero) m n bits few same low = (omega arith, omega arith)
no_bits (suc (suc zero)) m n bits few same low = (omega arith, omega arith)
no_bits (suc (suc (suc zero))) m n bits few same low = (omega arith, omega arith)
no_bits (suc (suc (suc (suc zero)))) m n bits few same low = (omega arith, omega arith)
no_bits (suc (suc (suc (suc (suc k))))) m n bits few same low = absurd (omega arith)

-- a shift to the left as the code has it
shifted : (k : ℕ) → k < 5 → 1 * 2 ^ k % 4294967296 ≡ 2 ^ k
shifted zero few = omega arith
shifted (suc zero) few = omega arith
shifted (suc (suc zero)) few = omega arith
shifted (suc (suc (suc zero))) few = omega arith
shifted (suc (suc (suc (suc zero)))) few = omega arith
shifted (suc (suc (suc (suc (suc k))))) few = absurd (omega arith)

-- ---- the loop

-- the digits before a place have filled the octets, and left so many bits
pub record HaveRead (text : List ℕ) (i : ℕ) (octets : List ℕ) (bits count : ℕ) : Type 0 where
  pub digits : List ℕ
  pub spelt : AllZip IsDigit (take i text) digits
  pub counted : length digits ≡ i
  pub filled : 5 * i ≡ 8 * length octets + count
  pub number : number_of 32 digits ≡ number_of 256 octets * 2 ^ count + bits
  pub few : count < 8
  pub low : bits < 2 ^ count
  pub each : AreOctets octets

spelt_more : (text digits : List ℕ) (i c d v : ℕ) → i < length text → c ≡ get_or text i d → IsDigit c v → AllZip IsDigit (take i text) digits → AllZip IsDigit (take (i + 1) text) (digits ++ v ∷ [])
spelt_more text digits i c d v lt found is spelt =
    rw (take_more text i d lt, ← found) (AllZip-push IsDigit (take i text) digits c v spelt is)

counted_more : (digits : List ℕ) (i v : ℕ) → length digits ≡ i → length (digits ++ v ∷ []) ≡ i + 1
counted_more digits i v counted = length-append digits (v ∷ []) ∙ ap (λ n. n + 1) counted

-- a digit that fills no octet
pub read_kept : (text octets : List ℕ) (i c d v bits count : ℕ) → i < length text → c ≡ get_or text i d → IsDigit c v → HaveRead text i octets bits count → count + 5 < 8 → HaveRead text (i + 1) octets (bits * 32 + v) (count + 5)
read_kept text octets i c d v bits count lt found is have room = record {
  digits = have.digits ++ v ∷ [];
  spelt = spelt_more text have.digits i c d v lt found is have.spelt;
  counted = counted_more have.digits i v have.counted;
  filled = omega (arith, have.filled);
  number = number_more_from 32 0 have.digits v ∙ kept_number count bits v (number_of 32 have.digits) (number_of 256 octets) (omega arith) have.number;
  few = room;
  low = kept_low count bits v (omega arith) have.low (digit_small c v is);
  each = have.each;
}

-- a digit that fills an octet, and leaves k bits
pub read_filled : (text octets : List ℕ) (i c d v bits k : ℕ) → i < length text → c ≡ get_or text i d → IsDigit c v → HaveRead text i octets bits (k + 3) → HaveRead text (i + 1) (octets ++ ((bits * 32 + v) / 2 ^ k) ∷ []) ((bits * 32 + v) % 2 ^ k) k
read_filled text octets i c d v bits k lt found is have =
    let small = digit_small c v is in
    let few : k < 5 = omega (arith, have.few) in
    let f = fills k bits v (number_of 32 have.digits) (number_of 256 octets) few have.low small have.number in
    let octet : ℕ = (bits * 32 + v) / 2 ^ k in record {
      digits = have.digits ++ v ∷ [];
      spelt = spelt_more text have.digits i c d v lt found is have.spelt;
      counted = counted_more have.digits i v have.counted;
      filled = omega (arith, have.filled, length-append octets (octet ∷ []));
      number = number_more_from 32 0 have.digits v ∙ f.number ∙ ap (λ n. n * 2 ^ k + (bits * 32 + v) % 2 ^ k) (sym (number_more_from 256 0 octets octet));
      few = omega (arith, few);
      low = f.low;
      each = AllByRecursion-append (λ n. n < 256) octets (octet ∷ []) have.each (f.octet, tt);
    }

-- out holds what it had, and the octets of the digits before a place
pub record Reading (text old out : List ℕ) (i bits count : ℕ) : Type 0 where
  pub octets : List ℕ
  pub grown : out ≡ old ++ octets
  pub have : HaveRead text i octets bits count

pub begun : (text old : List ℕ) → Reading text old old 0 0 0
begun text old = record { octets = []; grown = sym (append-nil old); have = record { digits = []; spelt = tt; counted = refl; filled = refl; number = refl; few = omega arith; low = omega arith; each = tt } }

pub is_digit : (c v w : ℕ) (r : Option ℕ) → r ≡ base32_digit c → r ≡ Some w → v ≡ w → IsDigit c v
is_digit c v w r gives is same = rw same (sym gives ∙ is)

-- where eight bits or more are there, k of them are left
with_left : (text octets : List ℕ) (i bits count : ℕ) → 8 ≤ count + 5 → HaveRead text i octets bits count → HaveRead text i octets bits (count + 5 - 8 + 3)
with_left text octets i bits count full have = subst (λ n. HaveRead text i octets bits n) (let e : count ≡ count + 5 - 8 + 3 = omega arith in e) have

pub octet_fits : (text old out : List ℕ) (i c v bits count : ℕ) → IsDigit c v → Reading text old out i bits count → 8 ≤ count + 5 → (bits * 32 + v) / 2 ^ (count + 5 - 8) < 256
octet_fits text old out i c v bits count is r full =
    let have = with_left text r.octets i bits count full r.have in
    (fills (count + 5 - 8) bits v (number_of 32 have.digits) (number_of 256 r.octets) (omega (arith, have.few)) have.low (digit_small c v is) have.number).octet

pub reads_kept : (text old out next : List ℕ) (i c d v bits count new_bits new_count : ℕ) → i < length text → c ≡ get_or text i d → IsDigit c v → Reading text old out i bits count → count + 5 < 8 → next ≡ out → new_bits ≡ bits * 32 + v → new_count ≡ count + 5 → Reading text old next (i + 1) new_bits new_count
reads_kept text old out next i c d v bits count new_bits new_count lt found is r room same b n =
    rw (same, b, n) (record { octets = r.octets; grown = r.grown; have = read_kept text r.octets i c d v bits count lt found is r.have room })

pub reads_filled : (text old out next : List ℕ) (i c d v bits count new_bits new_count : ℕ) → i < length text → c ≡ get_or text i d → IsDigit c v → Reading text old out i bits count → 8 ≤ count + 5 → next ≡ out ++ ((bits * 32 + v) / 2 ^ (count + 5 - 8)) ∷ [] → new_bits ≡ (bits * 32 + v) % (1 * 2 ^ (count + 5 - 8) % 4294967296) → new_count ≡ count + 5 - 8 → Reading text old next (i + 1) new_bits new_count
reads_filled text old out next i c d v bits count new_bits new_count lt found is r full pushed b n =
    let octet : ℕ = (bits * 32 + v) / 2 ^ (count + 5 - 8) in
    rw (b, n, shifted (count + 5 - 8) (omega (arith, r.have.few))) (record {
      octets = r.octets ++ octet ∷ [];
      grown = pushed ∙ ap (λ o. o ++ octet ∷ []) r.grown ∙ append_assoc old r.octets (octet ∷ []);
      have = read_filled text r.octets i c d v bits (count + 5 - 8) lt found is (with_left text r.octets i bits count full r.have);
    })

-- a character that is no digit
pub no_digit : (c : ℕ) (r : Option ℕ) → r ≡ base32_digit c → r ≡ None → (v : ℕ) → IsDigit c v → ⊥
no_digit c r gives none v is = cc (sym gives ∙ none, is)

pub bad_digit : (text : List ℕ) (i c d : ℕ) → i < length text → c ≡ get_or text i d → ((v : ℕ) → IsDigit c v → ⊥) → (octets : List ℕ) → IsBase32Hex text octets → ⊥
bad_digit text i c d lt found none octets is =
    none (get_or is.digits i 0) (rw (sym found) at (AllZip-get_or IsDigit text is.digits i d 0 is.spelt lt))

-- the end of the text, where the unused bits are zero
read_whole : (text octets : List ℕ) (i bits count : ℕ) → length text ≤ i → 0 < length text → HaveRead text i octets bits count → count < 5 → bits ≡ 0 → IsBase32Hex text octets
read_whole text octets i bits count past some have few none =
    let spelt : AllZip IsDigit text have.digits = rw (take_all i text past) at have.spelt in
    let same = length_all_zip IsDigit text have.digits spelt in record {
      some = omega (arith, have.filled, have.counted);
      each = have.each;
      digits = have.digits;
      spelt = spelt;
      unused = count;
      few = few;
      count = omega (arith, have.filled, have.counted);
      bits = omega (arith, have.number, none);
    }

pub reads_whole : (text old out : List ℕ) (i bits count : ℕ) → length text ≤ i → 0 < length text → Reading text old out i bits count → count < 5 → bits ≡ 0 → AppendsStated (IsBase32Hex text) old out
reads_whole text old out i bits count past some r few none = record {
  octets = r.octets;
  stated = read_whole text r.octets i bits count past some r.have few none;
  written = r.grown;
}

-- where they aren't, or are too many
pub unused_bits : (text octets : List ℕ) (i bits count : ℕ) → length text ≤ i → HaveRead text i octets bits count → (value : List ℕ) → IsBase32Hex text value → (count < 5) × (bits ≡ 0)
unused_bits text octets i bits count past have value is =
    let spelt : AllZip IsDigit text have.digits = rw (take_all i text past) at have.spelt in
    let same = zip_once IsDigit one_digit text is.digits have.digits is.spelt spelt in
    let lengths = ap length same in
    let few : count < 5 = omega (arith, have.filled, have.counted, have.few, is.count, is.few, lengths) in
    let unused : is.unused ≡ count = omega (arith, have.filled, have.counted, have.few, is.count, is.few, lengths) in
    let numbers : number_of 256 value * 2 ^ count ≡ number_of 256 octets * 2 ^ count + bits = sym (rw unused at is.bits) ∙ ap (number_of 32) same ∙ have.number in
    (few, (no_bits count (number_of 256 value) (number_of 256 octets) bits few numbers have.low).0)

pub one_base32 : (text a b : List ℕ) → IsBase32Hex text a → IsBase32Hex text b → a ≡ b
one_base32 text a b x y =
    let same = zip_once IsDigit one_digit text x.digits y.digits x.spelt y.spelt in
    let lengths = ap length same in
    let unused : x.unused ≡ y.unused = omega (arith, x.count, x.few, y.count, y.few, lengths) in
    let count : length a ≡ length b = omega (arith, x.count, x.few, y.count, y.few, lengths) in
    let numbers : number_of 256 a * 2 ^ y.unused ≡ number_of 256 b * 2 ^ y.unused + 0 = sym (rw unused at x.bits) ∙ ap (number_of 32) same ∙ y.bits ∙ sym (add-zero _) in
    let equal = no_bits y.unused (number_of 256 a) (number_of 256 b) 0 y.few numbers (pow_pos y.unused) in
    (number_once_from 0 0 a b count x.each y.each equal.1).1

-- how many octets so many digits stand for
pub octet_count : (text octets : List ℕ) → IsBase32Hex text octets → length octets ≡ length text * 5 / 8
octet_count text octets is = omega (arith, is.count, is.few, length_all_zip IsDigit text is.digits is.spelt)

-- what is told of a text whose digits stand for no octets
pub hash_fails : (text : List ℕ) (fault : WordsFault) → NothingStated NoBase32Hex (IsBase32Hex text) fault → FailsHash text fault
hash_fails text fault none = rw none.0 (of_no_octets none.1)

-- of one without digits
pub no_digits_hash : (text : List ℕ) → length text ≡ 0 → FailsHash text NoBase32Hex
no_digits_hash text empty = of_no_octets (λ octets is. let count = octet_count text octets is in let some = is.some in omega arith)

-- and of one that has more digits than a hash
pub long_hash : (text old new : List ℕ) → 408 < length text → AppendsStated (IsBase32Hex text) old new → FailsHash text TooLong
long_hash text old new long more = of_too_many more.octets more.stated (let is = more.stated in omega (arith, is.count, is.few, length_all_zip IsDigit text is.digits is.spelt))
