-- Types have a bitmap, so that items that name types state one.
use Rattle.std.proofs.lemmas.Bool.{cases_eq}
use Rattle.std.proofs.lemmas.Nat.Bits.{bit_at-zero}
use Rattle.std.proofs.lemmas.Nat.{or_of_8}
use Rattle.std.specs.Int.Bits.{bit_or}
use Rattle.std.specs.List.{Contains}
use Rattle.zone_name.specs.Common.{EitherIs}
use Rattle.zone_rdata.proofs.Choices.{Choice}
use Rattle.zone_rdata.specs.Item.{bare, quoted}
use Rattle.type_data.proofs.OfKinds.Bitmap.Bits.{AreBitsOf, AreOf, HavePushed, all_pushed, more_bits, none_of, none_pushed, one_window, pushed_on}
use Rattle.type_data.proofs.Common.{All-from_recursion, All-permutation, AllByRecursion, AllByRecursion-back, AllZip, FailsPerhapsTypes, FailsTypes, HasBit, IsPermutation, List, NamesAType, NamesType, RawItem, StatesPerhapsTypes, StatesTypes, [], ap, arith, bit_at, cases_lt, drop, get_or, get_or-set_other, get_or-set_same, get_or_past, inl, inr, length, length-drop, recursion_from_All, refl, replicate, set, subst, suc, sym, take, take-append-drop, take_all, zero, ℕ, ◌%◌, ◌*◌, ◌++◌, ◌+◌, ◌-◌, ◌/◌, ◌<◌, ◌^◌, ◌∙◌, ◌∷◌, ◌≡◌, ◌≢◌, ◌≤◌, ◌⊎◌}
use Rattle.type_data.proofs.Decided.Choices.{by_own}
use Rattle.type_data.proofs.OfKinds.Word.Decided.{type_or_not}
use Rattle.type_data.proofs.OfKinds.Bitmap.Sorted.{in_order}
use Rattle.type_data.proofs.OfKinds.Types.Items.{types_pushed}
use Rattle.type_data.specs.Kinds.Bitmap.{IsBitmapOf}
use Rattle.type_data.specs.Kinds.Bitmap.Machine.{AppendsWindow, nothing}
use Rattle.type_data.specs.declared.fault.WordsFault.TheVariants.{NotAType, NothingLeft}

-- ---- octets up to the last that isn't 0

pub record Trimmed (octets : List ℕ) : Type 0 where
  pub len : ℕ
  pub few : len ≤ length octets
  pub last : 0 < len → get_or octets (len - 1) 0 ≢ 0
  pub after : (k : ℕ) → len ≤ k → get_or octets k 0 ≡ 0

zero_from : (octets : List ℕ) (n : ℕ) → get_or octets n 0 ≡ 0 → ((k : ℕ) → suc n ≤ k → get_or octets k 0 ≡ 0) → (k : ℕ) → n ≤ k → get_or octets k 0 ≡ 0
zero_from octets n here after k past = elim (cases_eq k n) [
  | inl same ↦ ap (λ (i : ℕ). get_or octets i 0) same ∙ here
  | inr other ↦ after k (omega arith)
]

trimmed_from : (octets : List ℕ) (n : ℕ) → n ≤ length octets → ((k : ℕ) → n ≤ k → get_or octets k 0 ≡ 0) → Trimmed octets
trimmed_from octets zero few after = record { len = 0; few = few; last = λ some. absurd (omega arith); after = after }
trimmed_from octets (suc n) few after = elim (cases_eq (get_or octets n 0) 0) [
  | inl same ↦ trimmed_from octets n (omega arith) (zero_from octets n same after)
  | inr other ↦ record { len = suc n; few = few; last = λ some. subst (λ (i : ℕ). get_or octets i 0 ≢ 0) (let e : n ≡ suc n - 1 = omega arith in e) other; after = after }
]

pub trimmed : (octets : List ℕ) → Trimmed octets
trimmed octets = trimmed_from octets (length octets) (omega arith) (λ k past. get_or_past octets k 0 past)

-- ---- the bits of types in their window

abbrev AreBelow : List ℕ → Type 0
AreBelow octets = (k : ℕ) → get_or octets k 0 < 256

-- octets of a whole window with these bits
record WindowBits (own : List ℕ) : Type 0 where
  octets : List ℕ
  bits : AreBitsOf own octets
  each : AreBelow octets

bit_below : (x : ℕ) → 1 * 2 ^ (7 - x % 8) % 2 ^ 8 < 2 ^ 8
bit_below x = omega arith

set_below : (octets : List ℕ) (i v : ℕ) → i < length octets → v < 256 → AreBelow octets → AreBelow (set octets i v)
set_below octets i v inside few each k = elim (cases_eq k i) [
  | inl same ↦ subst (λ (n : ℕ). get_or (set octets i v) n 0 < 256) (sym same) (subst (λ (n : ℕ). n < 256) (sym (get_or-set_same octets i v 0 inside)) few)
  | inr other ↦ subst (λ (n : ℕ). n < 256) (sym (get_or-set_other octets i k v 0 other)) (each k)
]

bits_from : (left i : ℕ) (own octets : List ℕ) → i + left ≡ length own → AreBitsOf (take i own) octets → AreBelow octets → WindowBits own
bits_from zero i own octets whole have each = record { octets = octets; bits = subst (λ l. AreBitsOf l octets) (take_all i own (omega arith)) have; each = each }
bits_from (suc left) i own octets whole have each =
    let x : ℕ = get_or own i 0 in
    let at : ℕ = x % 256 / 8 in
    let bit : ℕ = 1 * 2 ^ (7 - x % 8) % 2 ^ 8 in
    let place : at < length octets = omega (arith, have.len) in
    let octet : bit_or (get_or octets at 0) bit < 256 = or_of_8 (get_or octets at 0) bit (each at) (bit_below x) in
    bits_from left (i + 1) own (set octets at (bit_or (get_or octets at 0) bit)) (omega arith) (more_bits own i x at octets (set octets at (bit_or (get_or octets at 0) bit)) (omega arith) refl have refl refl) (set_below octets at (bit_or (get_or octets at 0) bit) place octet each)

zeros_each : (n : ℕ) → AllByRecursion (λ (c : ℕ). c ≡ 0) (replicate n 0)
zeros_each zero = tt
zeros_each (suc n) = (refl, zeros_each n)

zeros_below : (n k : ℕ) → get_or (replicate n 0) k 0 < 256
zeros_below zero k = omega arith
zeros_below (suc n) zero = omega arith
zeros_below (suc n) (suc k) = zeros_below n k

bits_of : (own : List ℕ) → WindowBits own
bits_of own = bits_from (length own) 0 own (replicate 32 0) (omega arith) (none_of (replicate 32 0) refl (zeros_each 32)) (zeros_below 32)

-- ---- a window

no_bit : (octets : List ℕ) → ((k : ℕ) → get_or octets k 0 ≡ 0) → (n : ℕ) → HasBit octets n → ⊥
no_bit octets none n has = let bad : bit_at 0 (7 - n % 8) ≡ 1 = sym (ap (λ c. bit_at c (7 - n % 8)) (none (n / 8))) ∙ has in omega (arith, bit_at-zero (7 - n % 8))

-- what is written after others
record Written (number : ℕ) (bits old : List ℕ) : Type 0 where
  new : List ℕ
  appends : AppendsWindow number bits old new

window_by : (number : ℕ) (bits old : List ℕ) → number < 256 → AreBelow bits → length bits ≡ 32 → (t : Trimmed bits) → (0 < t.len) ⊎ (t.len ≤ 0) → Written number bits old
window_by number bits old below each len t (inr empty) = record { new = old; appends = nothing (no_bit bits (λ k. t.after k (omega arith))) refl }
window_by number bits old below each len t (inl some) = record { new = (old ++ (number ∷ t.len ∷ [])) ++ take t.len bits; appends = one_window number bits old ((old ++ (number ∷ t.len ∷ [])) ++ take t.len bits) t.len below each (omega arith) t.few some (t.last some) t.after refl }

-- ---- how many types at the front are those of a window

record Front (high : ℕ) (types : List ℕ) : Type 0 where
  count : ℕ
  within : count ≤ length types
  own : AreOf high (take count types)
  other : count < length types → get_or types count 0 / 256 ≢ high

front_by : (high n : ℕ) (types : List ℕ) → (n / 256 ≡ high) ⊎ (n / 256 ≢ high) → Front high types → Front high (n ∷ types)
front_by high n types (inr other) more = record { count = 0; within = omega arith; own = tt; other = λ inside. other }
front_by high n types (inl same) more = record { count = suc more.count; within = (let few = more.within in omega arith); own = (same, more.own); other = λ inside. more.other (omega arith) }

front_of : (high : ℕ) (types : List ℕ) → Front high types
front_of high [] = record { count = 0; within = omega arith; own = tt; other = λ inside. absurd (omega arith) }
front_of high (n ∷ types) = front_by high n types (cases_eq (n / 256) high) (front_of high types)

some_own : (n : ℕ) (rest : List ℕ) → (front : Front (n / 256) (n ∷ rest)) → 0 < front.count
some_own n rest front = elim (cases_lt 0 front.count) [
  | inl some ↦ some
  | inr none ↦ absurd (let e : front.count ≡ 0 = omega arith in front.other (omega arith) (ap (λ (i : ℕ). get_or (n ∷ rest) i 0 / 256) e))
]

-- ---- windows, one after another

abbrev AreTypes : List ℕ → Type 0
AreTypes types = AllByRecursion (λ n. n < 65536) types

drop_types : (count : ℕ) (types : List ℕ) → AreTypes types → AreTypes (drop count types)
drop_types count types each = AllByRecursion-back (λ n. n < 65536) (take count types) (drop count types) (subst AreTypes (sym (take-append-drop count types)) each)

windows_from : (left : ℕ) (types rest out : List ℕ) → length rest ≤ left → AreTypes rest → HavePushed types rest [] out → (octets : List ℕ) × IsBitmapOf (Contains types) octets
windows_from left types [] out few each have = let done = all_pushed types [] [] out have refl in (done.octets, done.stated)
windows_from zero types (n ∷ rest) out few each have = absurd (omega arith)
windows_from (suc left) types (n ∷ rest) out few each have =
    let high : ℕ = n / 256 in
    let front = front_of high (n ∷ rest) in
    let own : List ℕ = take front.count (n ∷ rest) in
    let after : List ℕ = drop front.count (n ∷ rest) in
    let bits = bits_of own in
    let first : n < 65536 = each.0 in
    let written = window_by high bits.octets out (omega arith) bits.each bits.bits.len (trimmed bits.octets) (cases_lt 0 (trimmed bits.octets).len) in
    let more = pushed_on types (n ∷ rest) own after bits.octets [] out written.new n front.count have refl front.within front.own front.other refl refl bits.bits.bits written.appends in
    let some : 0 < front.count = some_own n rest front in
    windows_from left types after written.new (let l = length-drop front.count (n ∷ rest) in omega arith) (drop_types front.count (n ∷ rest) each) more

-- ---- the types that items name

each_name : (item : RawItem) → Choice (NamesType item)
each_name (bare word) = type_or_not word
each_name (quoted text) = inr (λ n is. is)

abbrev NamesOrNot : List RawItem → Type 0
NamesOrNot items = ((numbers : List ℕ) × (AllZip NamesType items numbers × AreTypes numbers)) ⊎ (AllByRecursion NamesAType items → ⊥)

name_short : (item : RawItem) (n : ℕ) → NamesType item n → n < 65536
name_short (bare word) n is = is.kind.short
name_short (quoted text) n is = absurd is

names_by : (item : RawItem) (items : List RawItem) → Choice (NamesType item) → NamesOrNot items → NamesOrNot (item ∷ items)
names_by item items (inr none) more = inr (λ each. none each.0.0 each.0.1)
names_by item items (inl found) (inr none) = inr (λ each. none each.1)
names_by item items (inl found) (inl more) = inl (found.0 ∷ more.0, ((found.1, more.1.0), (name_short item found.0 found.1, more.1.1)))

names_or_not : (items : List RawItem) → NamesOrNot items
names_or_not [] = inl ([], (tt, tt))
names_or_not (item ∷ items) = names_by item items (each_name item) (names_or_not items)

moved_types : (numbers sorted : List ℕ) → IsPermutation numbers sorted → AreTypes numbers → AreTypes sorted
moved_types numbers sorted same each = recursion_from_All (λ n. n < 65536) sorted (All-permutation (λ n. n < 65536) numbers sorted same (All-from_recursion (λ n. n < 65536) numbers each))

bitmap_of : (items : List RawItem) (numbers : List ℕ) → AllZip NamesType items numbers → AreTypes numbers → (octets : List ℕ) × StatesPerhapsTypes items octets
bitmap_of items numbers zip each =
    let order = in_order numbers in
    let bitmap = windows_from (length order.sorted) order.sorted order.sorted [] (omega arith) (moved_types numbers order.sorted order.same each) (none_pushed order.sorted [] order.rise) in
    let all = types_pushed items numbers order.sorted [] bitmap.0 zip order.same (record { octets = bitmap.0; stated = bitmap.1; written = refl }) in
    (all.octets, all.stated)

perhaps_types_or_not : (items : List RawItem) → Choice (StatesPerhapsTypes items)
perhaps_types_or_not items = elim (names_or_not items) [
  | inl found ↦ inl (bitmap_of items found.0 found.1.0 found.1.1)
  | inr none ↦ inr (λ octets is. none is.each)
]

pub perhaps_types_decided : (items : List RawItem) → EitherIs (StatesPerhapsTypes items) (FailsPerhapsTypes items)
perhaps_types_decided items = by_own NotAType (StatesPerhapsTypes items) (perhaps_types_or_not items)

types_by : (item : RawItem) (items : List RawItem) → Choice (StatesPerhapsTypes (item ∷ items)) → Choice (StatesTypes (item ∷ items))
types_by item items (inl found) = inl (found.0, record { some = omega arith; types = found.1 })
types_by item items (inr none) = inr (λ octets is. none octets is.types)

pub types_decided : (items : List RawItem) → EitherIs (StatesTypes items) (FailsTypes items)
types_decided [] = inr (NothingLeft, refl)
types_decided (item ∷ items) = by_own NotAType (StatesTypes (item ∷ items)) (types_by item items (perhaps_types_or_not (item ∷ items)))
