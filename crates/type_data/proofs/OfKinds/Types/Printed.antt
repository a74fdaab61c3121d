-- The words of types from one number on and below another, joined, and what is left of windows.
use Rattle.std.specs.Prelude.{decimal}
use Rattle.std.proofs.lemmas.List.Elements.{Contains-append_cases, Contains-append_left, Contains-append_right, Contains-push, Contains-push_cases}
use Rattle.std.proofs.lemmas.Nat.Bits.{bit_at-zero}
use Rattle.std.specs.List.{Contains}
use Rattle.std.specs.List.Sorted.{IsStrictlyIncreasing}
use Rattle.zone_rdata.proofs.Items.GenericLaws.{decimal-is}
use Rattle.zone_rdata.proofs.Octets.Sent.{frame_same}
use Rattle.zone_rdata.specs.Item.{bare, quoted}
use Rattle.zone_rdata.specs.Text.{written_item}
use Rattle.zone_rdata.specs.Words.{word_or_numbered}
use Rattle.type_data.proofs.OfKinds.Bitmap.Once.{type_at, window_type}
use Rattle.type_data.proofs.OfKinds.Bitmap.Bits.{ascend_more, below_more_windows, in_more, more_in, none_in}
use Rattle.type_data.proofs.Common.{AllByRecursion, AllByRecursion-append, AllZip, AscendFrom, HasBit, HaveType, IsKind, IsNumbered, IsTypeWord, IsWordAmong, IsWindow, List, NameType, NamesAType, NamesType, None, Option, RawItem, Some, StatesPerhapsTypes, Window, [], ap, append-nil, append_assoc, ap₂, arith, bit_at, by_mnemonic, by_number, cases_lt, codes, flat_map, flat_map-append, get_or, get_or_append_left, get_or_default, get_or_past, inl, inr, length, map, map-append, mnemonic_among, refl, recursion_from_All, registered_types, subst, suc, sym, window_octets, with_length, zero, ℕ, ◌%◌, ◌*◌, ◌++◌, ◌+◌, ◌-◌, ◌/◌, ◌<◌, ◌↔◌, ◌∙◌, ◌∷◌, ◌≡◌, ◌≢◌, ◌≤◌}
use Rattle.type_data.proofs.OfKinds.Types.Items.{among_named, named_among}
use Rattle.type_data.specs.Kinds.Types.{PrintsPerhapsTypes, PrintsTypes, StatesTypes, type_item}
use Rattle.type_data.specs.Kinds.Word.{type_word}
use Rattle.type_data.specs.Kinds.Types.Machine.{AscendWithin, HasNoKind, IsInOctet, PrintsBetween}
use Rattle.type_data.specs.Kinds.Bitmap.Machine.{BeginsWithWindow, IsInWindow, window_of}
use Rattle.type_data.specs.Printed.{NoItems, PrintsAll, after_blanks}

-- ---- numbers that ascend

ascend_joined : (from mid past : ℕ) (xs ys : List ℕ) → from ≤ mid → mid ≤ past → AscendWithin from mid xs → AscendWithin mid past ys → AscendWithin from past (xs ++ ys)
ascend_joined from mid past [] [] up on a b = tt
ascend_joined from mid past [] (y ∷ ys) up on a b = (omega (arith, b.0), b.1, b.2)
ascend_joined from mid past (x ∷ xs) ys up on a b =
    (a.0, omega (arith, a.1), ascend_joined (x + 1) mid past xs ys (omega (arith, a.1)) on a.2 b)

ascend_at : (from past : ℕ) (xs : List ℕ) → AscendWithin from past xs → (k : ℕ) → k < length xs → from ≤ get_or xs k 0
ascend_at from past [] a k inside = absurd (omega arith)
ascend_at from past (x ∷ xs) a zero inside = a.0
ascend_at from past (x ∷ xs) a (suc k) inside = omega (arith, a.0, ascend_at (x + 1) past xs a.2 k (omega arith))

rising : (from past : ℕ) (xs : List ℕ) → AscendWithin from past xs → (k : ℕ) → suc k < length xs → get_or xs k 0 < get_or xs (suc k) 0
rising from past [] a k inside = absurd (omega arith)
rising from past (x ∷ xs) a zero inside = omega (arith, ascend_at (x + 1) past xs a.2 0 (omega arith))
rising from past (x ∷ xs) a (suc k) inside = rising (x + 1) past xs a.2 k (omega arith)

increasing : (from past : ℕ) (xs : List ℕ) → AscendWithin from past xs → IsStrictlyIncreasing xs
increasing from past xs a k inside =
    let next : suc k ≡ k + 1 = omega arith in
    subst (λ (i : ℕ). get_or xs k 0 < get_or xs i 0) next (rising from past xs a k (omega arith))

-- ---- words between numbers

after_blanks_append : (xs ys : List ℕ) → after_blanks (map type_item (xs ++ ys)) ≡ after_blanks (map type_item xs) ++ after_blanks (map type_item ys)
after_blanks_append xs ys = ap after_blanks (map-append type_item xs ys) ∙ flat_map-append (λ item. 32 ∷ written_item item) (map type_item xs) (map type_item ys)

pub none_between : (Is : ℕ → Type 0) (from past : ℕ) (old : List ℕ) → ((n : ℕ) → from ≤ n → n < past → Is n → ⊥) → PrintsBetween Is from past old old
none_between Is from past old none = record {
  types = [];
  ascend = tt;
  kinds = tt;
  exactly = λ n. (λ has. absurd (none_in n has), λ is. absurd (none n is.0 is.1 is.2));
  appended = sym (append-nil old);
}

alone_in : (m n : ℕ) → Contains (m ∷ []) n → n ≡ m
alone_in m n has = elim (Contains-push_cases [] m n has) [ inl none ↦ absurd (none_in n none) | inr same ↦ sym same ]

pub one_between : (Is : ℕ → Type 0) (n past : ℕ) (old new : List ℕ) → past ≡ n + 1 → Is n → IsKind n → new ≡ old ++ after_blanks (type_item n ∷ []) → PrintsBetween Is n past old new
one_between Is n past old new one is kind more = record {
  types = n ∷ [];
  ascend = (omega arith, omega arith, tt);
  kinds = (kind, tt);
  exactly = λ m. (
    λ has. let same = alone_in n m has in (omega (arith, same), omega (arith, same), subst Is (sym same) is),
    λ within. let same : m ≡ n = omega (arith, within.0, within.1) in subst (Contains (n ∷ [])) (sym same) (Contains-push [] n),
  );
  appended = more;
}

pub then_between : (Is : ℕ → Type 0) (from mid past : ℕ) (old written new : List ℕ) → from ≤ mid → mid ≤ past → PrintsBetween Is from mid old written → PrintsBetween Is mid past written new → PrintsBetween Is from past old new
then_between Is from mid past old written new up on a b = record {
  types = a.types ++ b.types;
  ascend = ascend_joined from mid past a.types b.types up on a.ascend b.ascend;
  kinds = AllByRecursion-append IsKind a.types b.types a.kinds b.kinds;
  exactly = λ n. (
    λ has. elim (Contains-append_cases a.types b.types n has) [
      | inl before ↦ let is = (a.exactly n).0 before in (is.0, omega (arith, is.1), is.2)
      | inr after ↦ let is = (b.exactly n).0 after in (omega (arith, is.0), is.1, is.2)
    ],
    λ is. elim (cases_lt n mid) [
      | inl before ↦ Contains-append_left a.types b.types n ((a.exactly n).1 (is.0, before, is.2))
      | inr after ↦ Contains-append_right a.types b.types n ((b.exactly n).1 (after, is.1, is.2))
    ],
  );
  appended = b.appended ∙ ap (λ l. l ++ after_blanks (map type_item b.types)) a.appended ∙ append_assoc old _ _ ∙ ap (λ l. old ++ l) (sym (after_blanks_append a.types b.types));
}

pub alike_between : (Is Are : ℕ → Type 0) (from past : ℕ) (old new : List ℕ) → ((n : ℕ) → from ≤ n → n < past → Is n ↔ Are n) → PrintsBetween Is from past old new → PrintsBetween Are from past old new
alike_between Is Are from past old new alike a = record {
  types = a.types;
  ascend = a.ascend;
  kinds = a.kinds;
  exactly = λ n. (
    λ has. let is = (a.exactly n).0 has in (is.0, is.1, (alike n is.0 is.1).0 is.2),
    λ are. (a.exactly n).1 (are.0, are.1, (alike n are.0 are.1).1 are.2),
  );
  appended = a.appended;
}

-- ---- the bits of an octet, and those of a window

pub bit_of : (first octet place : ℕ) → bit_at octet (7 - place) ≡ 1 → IsInOctet first octet (first + place)
bit_of first octet place is =
    let e : first + place - first ≡ place = omega arith in
    subst (λ (k : ℕ). bit_at octet (7 - k) ≡ 1) (sym e) is

pub no_bit_of : (first octet place n : ℕ) → (bit_at octet (7 - place) ≡ 1 → ⊥) → n ≡ first + place → IsInOctet first octet n → ⊥
no_bit_of first octet place n none same is =
    let e : n - first ≡ place = omega arith in
    none (subst (λ (k : ℕ). bit_at octet (7 - k) ≡ 1) e is)

bit_in_window : (number first index octet : ℕ) (bits : List ℕ) (n : ℕ) → first ≡ number * 256 + index * 8 → index < 32 → octet ≡ get_or bits index 0 → first ≤ n → n < first + 8 → IsInOctet first octet n ↔ IsInWindow number bits n
bit_in_window number first index octet bits n from few is above below =
    let window : n / 256 ≡ number = omega arith in
    let at : n % 256 / 8 ≡ index = omega arith in
    let place : n - first ≡ n % 256 % 8 = omega arith in
    let e : bit_at octet (7 - (n - first)) ≡ bit_at (get_or bits (n % 256 / 8) 0) (7 - n % 256 % 8) = ap₂ (λ (o p : ℕ). bit_at o (7 - p)) (is ∙ ap (λ (i : ℕ). get_or bits i 0) (sym at)) place in
    (λ h. (window, sym e ∙ h), λ h. e ∙ h.1)

pub octet_in_window : (number first index octet : ℕ) (bits old new : List ℕ) → first ≡ number * 256 + index * 8 → index < 32 → octet ≡ get_or bits index 0 → PrintsBetween (IsInOctet first octet) first (first + 8) old new → PrintsBetween (IsInWindow number bits) (number * 256 + index * 8) (number * 256 + (index + 1) * 8) old new
octet_in_window number first index octet bits old new from few is printed =
    let past : first + 8 ≡ number * 256 + (index + 1) * 8 = omega arith in
    let alike = alike_between (IsInOctet first octet) (IsInWindow number bits) first (first + 8) old new (λ n above below. bit_in_window number first index octet bits n from few is above below) printed in
    subst (λ (n : ℕ). PrintsBetween (IsInWindow number bits) (number * 256 + index * 8) n old new) past (subst (λ (n : ℕ). PrintsBetween (IsInWindow number bits) n (first + 8) old new) from alike)

pub no_kind_in_window : (number first index octet : ℕ) (bits : List ℕ) → first ≡ number * 256 + index * 8 → index < 32 → octet ≡ get_or bits index 0 → HasNoKind (IsInOctet first octet) first (first + 8) → HasNoKind (IsInWindow number bits) (number * 256) (number * 256 + 256)
no_kind_in_window number first index octet bits from few is none =
    (none.0, (omega (arith, none.1.0), omega (arith, none.1.1), (bit_in_window number first index octet bits none.0 from few is none.1.0 none.1.1).0 none.1.2, none.1.3))

-- an octet of 0 has no bit
pub no_bits : (number index octet : ℕ) (bits : List ℕ) (n : ℕ) → octet ≡ 0 → octet ≡ get_or bits index 0 → n % 256 / 8 ≡ index → IsInWindow number bits n → ⊥
no_bits number index octet bits n none is at has =
    let bad : bit_at 0 (7 - n % 256 % 8) ≡ 1 = ap (λ (c : ℕ). bit_at c (7 - n % 256 % 8)) (sym none ∙ is ∙ ap (λ (i : ℕ). get_or bits i 0) (sym at)) ∙ has.1 in
    omega (arith, bit_at-zero (7 - n % 256 % 8))

pub octet_of_none : (number index : ℕ) (bits old : List ℕ) → index < 32 → get_or bits index 0 ≡ 0 → PrintsBetween (IsInWindow number bits) (number * 256 + index * 8) (number * 256 + (index + 1) * 8) old old
octet_of_none number index bits old few none =
    none_between _ _ _ old (λ n above below has. no_bits number index (get_or bits index 0) bits n none refl (omega arith) has)

pub window_printed : (number count : ℕ) (bits old new : List ℕ) → length bits ≤ count → count ≤ 32 → PrintsBetween (IsInWindow number bits) (number * 256) (number * 256 + count * 8) old new → PrintsBetween (IsInWindow number bits) (number * 256) (number * 256 + 256) old new
window_printed number count bits old new past few printed =
    then_between _ _ (number * 256 + count * 8) _ old new new (omega arith) (omega arith) printed
    (none_between _ _ _ new (λ n above below has. no_bits number (n % 256 / 8) (get_or bits (n % 256 / 8) 0) bits n (get_or_past bits (n % 256 / 8) 0 (omega arith)) refl refl has))

-- ---- windows, one after another

pub begins_with : (octets rest bits after : List ℕ) (number : ℕ) → ((k : ℕ) → get_or octets k 0 < 256) → octets ≡ number ∷ rest → rest ≡ with_length bits ++ after → 0 < length bits → length bits ≤ 32 → get_or bits (length bits - 1) 0 ≢ 0 → BeginsWithWindow octets (window_of number bits) after
begins_with octets rest bits after number octet front counted some few last =
    let whole : octets ≡ (number ∷ length bits ∷ bits) ++ after = front ∙ ap (λ l. number ∷ l) counted in
    record {
      is = record {
        number = subst (λ (l : List ℕ). get_or l 0 0 < 256) whole (octet 0);
        some = some;
        few = few;
        octets = recursion_from_All (λ c. c < 256) bits (λ k d inside. let e : get_or bits k d ≡ get_or (bits ++ after) k 0 = get_or_default bits k d 0 inside ∙ sym (get_or_append_left bits after 0 k inside) in let o : get_or (bits ++ after) k 0 < 256 = subst (λ (l : List ℕ). get_or l (suc (suc k)) 0 < 256) whole (octet (suc (suc k))) in omega arith);
        last = last;
      };
      whole = whole;
    }

-- octets are windows, ascending, from a least number on
pub record AreWindows (least : ℕ) (octets : List ℕ) (windows : List Window) : Type 0 where
  pub parts : octets ≡ flat_map window_octets windows
  pub each : AllByRecursion IsWindow windows
  pub ascend : AscendFrom least windows

-- the rest of octets that are windows: windows too, whose types are theirs
pub record AreLeft (least : ℕ) (rest : List ℕ) (windows : List Window) : Type 0 where
  pub left : List Window
  pub are : AreWindows least rest left
  pub theirs : (n : ℕ) → HaveType left n → HaveType windows n

-- the first of windows
pub record IsFirst (least : ℕ) (after : List ℕ) (w : Window) (windows : List Window) : Type 0 where
  pub above : least ≤ w.number
  pub left : AreLeft (w.number + 1) after windows
  pub its : (n : ℕ) → IsInWindow w.number w.bits n → HaveType windows n

first_window : (least : ℕ) (rest after : List ℕ) (w : Window) (windows : List Window) → AreWindows least rest windows → BeginsWithWindow rest w after → IsFirst least after w windows
first_window least rest after w [] are begins = absurd (let bad : [] ≡ window_octets w ++ after = sym are.parts ∙ begins.whole in cc)
first_window least rest after w (v ∷ windows) are begins =
    let e : v.number ∷ (with_length v.bits ++ flat_map window_octets windows) ≡ w.number ∷ (with_length w.bits ++ after) = sym are.parts ∙ begins.whole in
    let number : v.number ≡ w.number = cc in
    let framed = frame_same v.bits w.bits (flat_map window_octets windows) after (cc) in
    record {
      above = omega (arith, are.ascend.0);
      left = record {
        left = windows;
        are = record { parts = sym framed.1; each = are.each.1; ascend = subst (λ (n : ℕ). AscendFrom (n + 1) windows) number are.ascend.1 };
        theirs = λ n have. inr have;
      };
      its = λ n is. inl (is.0 ∙ sym number, subst (λ (b : List ℕ). HasBit b (n % 256)) (sym framed.0) is.1);
    }

-- where windows are left, one stands at the front
one_left : (least : ℕ) (rest : List ℕ) (windows : List Window) → AreWindows least rest windows → 0 < length rest → ((w : Window) (after : List ℕ) → BeginsWithWindow rest w after → ⊥) → ⊥
one_left least rest [] are some none = omega (arith, ap length are.parts)
one_left least rest (w ∷ windows) are some none = none w (flat_map window_octets windows) (record { is = are.each.0; whole = are.parts })

-- the words of the types of the windows before the rest are printed
pub record HavePrinted (octets rest : List ℕ) (least : ℕ) (old new : List ℕ) : Type 0 where
  pub windows : List Window
  pub parts : octets ≡ flat_map window_octets windows ++ rest
  pub each : AllByRecursion IsWindow windows
  pub ascend : AscendFrom 0 windows
  pub below : AllByRecursion (λ w. w.number < least) windows
  pub few : least ≤ 256
  pub printed : PrintsBetween (HaveType windows) 0 (least * 256) old new
  pub goes : (whole : List Window) → AreWindows 0 octets whole → AreLeft least rest whole

pub none_printed : (octets old : List ℕ) → HavePrinted octets octets 0 old old
none_printed octets old = record {
  windows = [];
  parts = refl;
  each = tt;
  ascend = tt;
  below = tt;
  few = omega arith;
  printed = none_between (HaveType []) 0 0 old (λ n up down is. is);
  goes = λ whole are. record { left = whole; are = are; theirs = λ n have. have };
}

type_below : (least : ℕ) (windows : List Window) (n : ℕ) → AllByRecursion (λ w. w.number < least) windows → HaveType windows n → n < least * 256
type_below least [] n below have = absurd have
type_below least (w ∷ windows) n below have =
    elim have [
      | inl here ↦ omega (arith, here.0, below.0)
      | inr rest ↦ type_below least windows n below.1 rest
    ]

next_words : (windows : List Window) (w : Window) (least : ℕ) (old mid new : List ℕ) → AllByRecursion (λ w. w.number < least) windows → least ≤ w.number → PrintsBetween (HaveType windows) 0 (least * 256) old mid → PrintsBetween (IsInWindow w.number w.bits) (w.number * 256) (w.number * 256 + 256) mid new → PrintsBetween (HaveType (windows ++ w ∷ [])) 0 (w.number * 256 + 256) old new
next_words windows w least old mid new below up before own =
    let so_far = alike_between (HaveType windows) (HaveType (windows ++ w ∷ [])) 0 (least * 256) old mid (λ n low high. (
      λ h. more_in windows w n (inl h),
      λ h. elim (in_more windows w n h) [ inl among ↦ among | inr last ↦ absurd (omega (arith, last.0)) ],
    )) before in
    let gap = none_between (HaveType (windows ++ w ∷ [])) (least * 256) (w.number * 256) mid (λ n low high h. elim (in_more windows w n h) [ inl among ↦ omega (arith, type_below least windows n below among) | inr last ↦ omega (arith, last.0) ]) in
    let added = alike_between (IsInWindow w.number w.bits) (HaveType (windows ++ w ∷ [])) (w.number * 256) (w.number * 256 + 256) mid new (λ n low high. (
      λ h. more_in windows w n (inr h),
      λ h. elim (in_more windows w n h) [ inl among ↦ absurd (omega (arith, type_below least windows n below among)) | inr last ↦ last ],
    )) own in
    then_between _ 0 (w.number * 256) _ old mid new (omega arith) (omega arith) (then_between _ 0 (least * 256) _ old mid mid (omega arith) (omega arith) so_far gap) added

pub next_printed : (octets rest after bits old mid new : List ℕ) (least number : ℕ) → HavePrinted octets rest least old mid → BeginsWithWindow rest (window_of number bits) after → least ≤ number → PrintsBetween (IsInWindow number bits) (number * 256) (number * 256 + 256) mid new → HavePrinted octets after (number + 1) old new
next_printed octets rest after bits old mid new least number have begins up own =
    let w : Window = window_of number bits in
    let words = next_words have.windows w least old mid new have.below up have.printed own in
    let end : number * 256 + 256 ≡ (number + 1) * 256 = omega arith in
    record {
      windows = have.windows ++ w ∷ [];
      parts = have.parts ∙ ap (λ l. flat_map window_octets have.windows ++ l) begins.whole ∙ sym (append_assoc (flat_map window_octets have.windows) (window_octets w) after) ∙ ap (λ l. l ++ after) (ap (λ l. flat_map window_octets have.windows ++ l) (sym (append-nil (window_octets w))) ∙ sym (flat_map-append window_octets have.windows (w ∷ [])));
      each = AllByRecursion-append IsWindow have.windows (w ∷ []) have.each (begins.is, tt);
      ascend = ascend_more 0 least have.windows w have.ascend have.below (omega arith) up;
      below = AllByRecursion-append (λ v. v.number < number + 1) have.windows (w ∷ []) (below_more_windows least (number + 1) have.windows (omega arith) have.below) (omega arith, tt);
      few = omega (arith, begins.is.number);
      printed = subst (λ (n : ℕ). PrintsBetween (HaveType (have.windows ++ w ∷ [])) 0 n old new) end words;
      goes = λ whole are.
          let left = have.goes whole are in
          let first = first_window least rest after w left.left left.are begins in
          record { left = first.left.left; are = first.left.are; theirs = λ n h. left.theirs n (first.left.theirs n h) };
    }

pub all_printed : (octets rest old new : List ℕ) (least : ℕ) → HavePrinted octets rest least old new → rest ≡ [] → PrintsAll PrintsPerhapsTypes octets old new
all_printed octets rest old new least have none = record {
  items = map type_item have.printed.types;
  printed = record {
    types = have.printed.types;
    ascending = increasing 0 (least * 256) have.printed.types have.printed.ascend;
    kinds = have.printed.kinds;
    bitmap = record {
      windows = have.windows;
      parts = have.parts ∙ ap (λ l. flat_map window_octets have.windows ++ l) none ∙ append-nil (flat_map window_octets have.windows);
      each = have.each;
      ascend = have.ascend;
      types = λ n. (
        λ h. (have.printed.exactly n).1 (omega arith, type_below least have.windows n have.below h, h),
        λ h. ((have.printed.exactly n).0 h).2,
      );
    };
    words = refl;
  };
  appended = have.printed.appended;
}

-- ---- octets that are no bitmap of types

-- the windows that items state
windows_of : (items : List RawItem) (octets : List ℕ) (states : StatesPerhapsTypes items octets) → AreWindows 0 octets states.bitmap.windows
windows_of items octets states = record { parts = states.bitmap.parts; each = states.bitmap.each; ascend = states.bitmap.ascend }

pub no_window : (octets rest old new : List ℕ) (least : ℕ) → HavePrinted octets rest least old new → 0 < length rest → ((w : Window) (after : List ℕ) → BeginsWithWindow rest w after → ⊥) → NoItems StatesPerhapsTypes octets
no_window octets rest old new least have some none items states =
    let left = have.goes states.bitmap.windows (windows_of items octets states) in
    one_left least rest left.left left.are some none

pub low_window : (octets rest after old new : List ℕ) (least : ℕ) (w : Window) → HavePrinted octets rest least old new → BeginsWithWindow rest w after → w.number < least → NoItems StatesPerhapsTypes octets
low_window octets rest after old new least w have begins low items states =
    let left = have.goes states.bitmap.windows (windows_of items octets states) in
    let first = first_window least rest after w left.left left.are begins in
    omega (arith, first.above)

named_kind : (items : List RawItem) (n : ℕ) → NameType items n → IsKind n
named_kind [] n is = absurd is
named_kind (bare word ∷ items) n is = elim is [ inl here ↦ here.kind | inr rest ↦ named_kind items n rest ]
named_kind (quoted text ∷ items) n is = elim is [ inl here ↦ absurd here | inr rest ↦ named_kind items n rest ]

pub no_kind : (octets rest after bits old new : List ℕ) (least number past : ℕ) → HavePrinted octets rest least old new → BeginsWithWindow rest (window_of number bits) after → HasNoKind (IsInWindow number bits) (number * 256) past → NoItems StatesPerhapsTypes octets
no_kind octets rest after bits old new least number past have begins none items states =
    let left = have.goes states.bitmap.windows (windows_of items octets states) in
    let first = first_window least rest after (window_of number bits) left.left left.are begins in
    none.1.3 (named_kind items none.0 ((states.bitmap.types none.0).0 (left.theirs none.0 (first.its none.0 none.1.2))))

-- ---- one type or more

no_type_left : (windows : List Window) (n : ℕ) → [] ≡ flat_map window_octets windows → HaveType windows n → ⊥
no_type_left [] n none have = have
no_type_left (w ∷ windows) n none have = cc

first_named : (items : List RawItem) → 0 < length items → AllByRecursion NamesAType items → (n : ℕ) × NameType items n
first_named [] some each = absurd (omega arith)
first_named (item ∷ items) some each = (each.0.0, inl each.0.1)

pub none_of_none : (octets : List ℕ) → octets ≡ [] → NoItems StatesTypes octets
none_of_none octets none items states =
    let named = first_named items states.some states.types.each in
    no_type_left states.types.bitmap.windows named.0 (sym none ∙ states.types.bitmap.parts) ((states.types.bitmap.types named.0).1 named.1)

some_window : (windows : List Window) (octets : List ℕ) → 0 < length octets → octets ≡ flat_map window_octets windows → AllByRecursion IsWindow windows → (n : ℕ) × HaveType windows n
some_window [] octets some parts each = absurd (omega (arith, ap length parts))
some_window (w ∷ windows) octets some parts each =
    let has = window_type w each.0 in
    (w.number * 256 + has.0, type_at w windows has.0 has.1.0 has.1.1)

some_types : (types : List ℕ) (n : ℕ) → Contains types n → 0 < length (map type_item types)
some_types [] n has = absurd (none_in n has)
some_types (m ∷ types) n has = omega arith

some_words : (items : List RawItem) (octets : List ℕ) → 0 < length octets → PrintsPerhapsTypes items octets → 0 < length items
some_words items octets some is =
    let has = some_window is.bitmap.windows octets some is.bitmap.parts is.bitmap.each in
    subst (λ (l : List RawItem). 0 < length l) (sym is.words) (some_types is.types has.0 ((is.bitmap.types has.0).0 has.1))

pub types_printed : (octets old new : List ℕ) → 0 < length octets → PrintsAll PrintsPerhapsTypes octets old new → PrintsAll PrintsTypes octets old new
types_printed octets old new some all = record {
  items = all.items;
  printed = record { some = some_words all.items octets some all.printed; types = all.printed };
  appended = all.appended;
}

pub no_types : (octets : List ℕ) → NoItems StatesPerhapsTypes octets → NoItems StatesTypes octets
no_types octets none items states = none items states.types

-- ---- the words name the types

numbered_word : (n : ℕ) → n < 65536 → IsNumbered (codes "TYPE") (codes "TYPE" ++ decimal n) n
numbered_word n short = record { front = codes "TYPE"; digits = decimal n; parts = refl; named = refl; number = decimal-is n (omega arith) }

word_named : (row : Option (List ℕ)) (n : ℕ) → mnemonic_among registered_types n ≡ row → n < 65536 → IsWordAmong registered_types (codes "TYPE") (word_or_numbered row (codes "TYPE") n) n
word_named None n e short = by_number (numbered_word n short)
word_named (Some name) n e short = by_mnemonic (record { name = name; row = e; same = refl })

pub word_names : (n : ℕ) → IsKind n → IsTypeWord (type_word n) n
word_names n kind = record { named = word_named (mnemonic_among registered_types n) n refl kind.short; kind = kind }

each_names : (types : List ℕ) → AllByRecursion IsKind types → AllByRecursion NamesAType (map type_item types)
each_names [] kinds = tt
each_names (n ∷ types) kinds = ((n, word_names n kinds.0), each_names types kinds.1)

name_each : (types : List ℕ) → AllByRecursion IsKind types → AllZip NamesType (map type_item types) types
name_each [] kinds = tt
name_each (n ∷ types) kinds = (word_names n kinds.0, name_each types kinds.1)

-- what is printed states the octets
pub perhaps_types_printed_states : (items : List RawItem) (octets : List ℕ) → PrintsPerhapsTypes items octets → StatesPerhapsTypes items octets
perhaps_types_printed_states items octets is =
    let zip = subst (λ (l : List RawItem). AllZip NamesType l is.types) (sym is.words) (name_each is.types is.kinds) in
    record {
      each = subst (AllByRecursion NamesAType) (sym is.words) (each_names is.types is.kinds);
      bitmap = record {
        windows = is.bitmap.windows;
        parts = is.bitmap.parts;
        each = is.bitmap.each;
        ascend = is.bitmap.ascend;
        types = λ n. (λ have. among_named items is.types n zip ((is.bitmap.types n).0 have), λ named. (is.bitmap.types n).1 (named_among items is.types n zip named));
      };
    }

pub types_printed_states : (items : List RawItem) (octets : List ℕ) → PrintsTypes items octets → StatesTypes items octets
types_printed_states items octets is = record { some = is.some; types = perhaps_types_printed_states items octets is.types }
