-- Items that name types, and the bitmap of these types.
use Rattle.std.proofs.lemmas.List.Elements.{Contains-append_cases, Contains-append_left, Contains-append_right, Contains-push, Contains-push_cases}
use Rattle.std.proofs.lemmas.List.Sorted.{Contains-permutation, IsPermutation-sym}
use Rattle.std.specs.List.{Contains}
use Rattle.type_data.proofs.OfKinds.Bitmap.Once.{windows_once}
use Rattle.type_data.proofs.OfKinds.Bitmap.Bits.{none_in}
use Rattle.type_data.proofs.Common.{AllByRecursion, AllZip, AppendsStated, DataItem, FailsPerhapsTypes, FailsTypes, IsPermutation, List, NameType, NamesAType, NamesType, RawItem, StatesPerhapsTypes, StatesTypes, WordsFault, [], ap, arith, flat_map, get_or, inl, inr, length, map, map_push, raw_item, subst, suc, sym, take, take_more, window_octets, zero, ℕ, ◌++◌, ◌+◌, ◌<◌, ◌∙◌, ◌∷◌, ◌≡◌}
use Rattle.zone_rdata.specs.Item.{bare, quoted}
use Rattle.type_data.proofs.OfKinds.Word.Once.{type_word_once}
use Rattle.type_data.proofs.OfParameters.Lists.{zip_append}
use Rattle.type_data.specs.Kinds.Bitmap.{IsBitmapOf}

item_once : (item : RawItem) (m n : ℕ) → NamesType item m → NamesType item n → m ≡ n
item_once (bare word) m n a b = type_word_once word m n a b
item_once (quoted text) m n a b = absurd a

-- ---- one item more

pub names_more : (items : List DataItem) (i : ℕ) (d : DataItem) (numbers new : List ℕ) (number : ℕ) → i < length items → AllZip NamesType (map raw_item (take i items)) numbers → NamesType (raw_item (get_or items i d)) number → new ≡ numbers ++ number ∷ [] → AllZip NamesType (map raw_item (take (i + 1) items)) new
names_more items i d numbers new number inside have names written =
    let grown : map raw_item (take (i + 1) items) ≡ map raw_item (take i items) ++ raw_item (get_or items i d) ∷ [] = ap (map raw_item) (take_more items i d inside) ∙ map_push raw_item (take i items) (get_or items i d) in
    rw (written, grown) (zip_append NamesType (map raw_item (take i items)) (raw_item (get_or items i d) ∷ []) numbers (number ∷ []) have (names, tt))

-- ---- items that state no types

pub each_at : (items : List DataItem) (i : ℕ) (d : DataItem) → i < length items → AllByRecursion NamesAType (map raw_item items) → NamesAType (raw_item (get_or items i d))
each_at [] i d inside each = absurd (omega arith)
each_at (item ∷ items) zero d inside each = each.0
each_at (item ∷ items) (suc i) d inside each = each_at items i d (omega arith) each.1

-- ---- the bitmap of the types

each_named : (items : List RawItem) (numbers : List ℕ) → AllZip NamesType items numbers → AllByRecursion NamesAType items
each_named [] numbers zip = tt
each_named (item ∷ items) [] zip = absurd zip
each_named (item ∷ items) (n ∷ numbers) zip = ((n, zip.0), each_named items numbers zip.1)

pub named_among : (items : List RawItem) (numbers : List ℕ) (n : ℕ) → AllZip NamesType items numbers → NameType items n → Contains numbers n
named_among [] numbers n zip is = absurd is
named_among (item ∷ items) [] n zip is = absurd zip
named_among (item ∷ items) (m ∷ numbers) n zip is =
    elim is [
      | inl here ↦ rw (item_once item n m here zip.0) (Contains-append_left (m ∷ []) numbers m (Contains-push [] m))
      | inr rest ↦ Contains-append_right (m ∷ []) numbers n (named_among items numbers n zip.1 rest)
    ]

pub among_named : (items : List RawItem) (numbers : List ℕ) (n : ℕ) → AllZip NamesType items numbers → Contains numbers n → NameType items n
among_named [] [] n zip has = absurd (none_in n has)
among_named [] (m ∷ numbers) n zip has = absurd zip
among_named (item ∷ items) [] n zip has = absurd zip
among_named (item ∷ items) (m ∷ numbers) n zip has =
    elim (Contains-append_cases (m ∷ []) numbers n has) [
      | inl first ↦ elim (Contains-push_cases [] m n first) [
        | inl none ↦ absurd (none_in n none)
        | inr same ↦ inl (subst (NamesType item) same zip.0)
      ]
      | inr rest ↦ inr (among_named items numbers n zip.1 rest)
    ]

-- the bitmap of the same types in another order
pub types_pushed : (items : List RawItem) (numbers sorted old new : List ℕ) → AllZip NamesType items numbers → IsPermutation numbers sorted → AppendsStated (IsBitmapOf (Contains sorted)) old new → AppendsStated (StatesPerhapsTypes items) old new
types_pushed items numbers sorted old new zip same more = record {
  octets = more.octets;
  stated = record {
    each = each_named items numbers zip;
    bitmap = record {
      windows = more.stated.windows;
      parts = more.stated.parts;
      each = more.stated.each;
      ascend = more.stated.ascend;
      types = λ n. (
        λ have. among_named items numbers n zip (Contains-permutation sorted numbers n (IsPermutation-sym numbers sorted same) ((more.stated.types n).0 have)),
        λ is. (more.stated.types n).1 (Contains-permutation numbers sorted n same (named_among items numbers n zip is)),
      );
    };
  };
  written = more.written;
}

-- ---- items state one bitmap

pub perhaps_types_once : (items : List RawItem) (a b : List ℕ) → StatesPerhapsTypes items a → StatesPerhapsTypes items b → a ≡ b
perhaps_types_once items a b these those =
    (these.bitmap.parts ∙ ap (flat_map window_octets) (windows_once 0 these.bitmap.windows those.bitmap.windows these.bitmap.each those.bitmap.each these.bitmap.ascend those.bitmap.ascend (λ n have. (those.bitmap.types n).1 ((these.bitmap.types n).0 have)) (λ n have. (these.bitmap.types n).1 ((those.bitmap.types n).0 have))) ∙ sym those.bitmap.parts)

pub types_once : (items : List RawItem) (a b : List ℕ) → StatesTypes items a → StatesTypes items b → a ≡ b
types_once items a b these those = perhaps_types_once items a b these.types those.types

-- items that name no types state none, and an item is left
pub types_fail : (items : List DataItem) → 0 < length items → (fault : WordsFault) → FailsPerhapsTypes (map raw_item items) fault → FailsTypes (map raw_item items) fault
types_fail [] some fault fails = absurd (omega arith)
types_fail (item ∷ items) some fault fails =
    (fails.0, λ octets states. fails.1 octets states.types)
