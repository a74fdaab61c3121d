-- Bits that are set one by one, and the windows of types in ascending order.
use Rattle.std.proofs.lemmas.List.Elements.{All-contains, All-from_recursion, Contains-append_cases, Contains-append_left, Contains-append_right, Contains-get_or, Contains-push, Contains-push_cases}
use Rattle.std.proofs.lemmas.List.{length-set}
use Rattle.std.proofs.lemmas.Nat.Bits.{bit_at-zero, bit_at_set_other, bit_at_set_same}
use Rattle.std.specs.Int.Bits.{bit_or}
use Rattle.std.specs.List.{Contains}
use Rattle.type_data.proofs.Common.{AllByRecursion, AllByRecursion-append, AppendsStated, AscendFrom, HasBit, HaveType, IsWindow, List, None, Some, Window, [], add-zero, ap, append-nil, append_assoc, arith, bit_at, cases_lt, drop, eqb_tells, flat_map, flat_map-append, get_or, get_or-drop, get_or-set_other, get_or-set_same, get_or-take, get_or_default, get_or_past, inl, inr, length, length-drop, length-take, recursion_from_All, refl, set, slice_get, subst, suc, sym, take, take-append-drop, take_more, w8, window_octets, zero, ℕ, ◌%◌, ◌*◌, ◌++◌, ◌+◌, ◌-◌, ◌/◌, ◌<◌, ◌^◌, ◌↔◌, ◌∙◌, ◌∷◌, ◌≡◌, ◌≢◌, ◌≤◌, ◌⊎◌}
use Rattle.type_data.proofs.OfParameters.Ascending.{RiseFrom}
use Rattle.type_data.specs.Kinds.Bitmap.{IsBitmapOf}
use Rattle.type_data.specs.Kinds.Bitmap.Machine.{AppendsWindow, HavePlace, nothing, window}

-- ---- one bit more

-- the octets with one more bit
abbrev pub with_bit : List ℕ → ℕ → List ℕ
with_bit bits a = set bits (a / 8) (bit_or (get_or bits (a / 8) 0) (1 * 2 ^ (7 - a % 8) % 2 ^ 8))

bit_other : (bits : List ℕ) (a n : ℕ) → a / 8 < length bits → n ≢ a → bit_at (get_or (with_bit bits a) (n / 8) 0) (7 - n % 8) ≡ bit_at (get_or bits (n / 8) 0) (7 - n % 8)
bit_other bits a n inside apart =
    elim (eqb_tells (n / 8) (a / 8)) [
      | inl same ↦
          let e : n / 8 ≡ a / 8 = same.1 in
          rw (e, get_or-set_same bits (a / 8) (bit_or (get_or bits (a / 8) 0) (1 * 2 ^ (7 - a % 8) % 2 ^ 8)) 0 inside) (bit_at_set_other w8 (get_or bits (a / 8) 0) (7 - a % 8) (omega arith) (7 - n % 8) (omega arith))
      | inr other ↦ ap (λ c. bit_at c (7 - n % 8)) (get_or-set_other bits (a / 8) (n / 8) (bit_or (get_or bits (a / 8) 0) (1 * 2 ^ (7 - a % 8) % 2 ^ 8)) 0 other.1)
    ]

one_more : (bits : List ℕ) (a n : ℕ) → a / 8 < length bits → HasBit (with_bit bits a) n ↔ ((n ≡ a) ⊎ HasBit bits n)
one_more bits a n inside = (
  λ h. elim (eqb_tells n a) [
    | inl same ↦ inl same.1
    | inr other ↦ inr (sym (bit_other bits a n inside other.1) ∙ h)
  ],
  λ e. elim (eqb_tells n a) [
    | inl same ↦ let P : ℕ → Type 0 = λ x. HasBit (with_bit bits a) x in subst P (sym same.1) (rw (get_or-set_same bits (a / 8) (bit_or (get_or bits (a / 8) 0) (1 * 2 ^ (7 - a % 8) % 2 ^ 8)) 0 inside) (bit_at_set_same w8 (get_or bits (a / 8) 0) (7 - a % 8) (omega arith)))
    | inr other ↦ elim e [
      | inl same ↦ absurd (other.1 same)
      | inr has ↦ bit_other bits a n inside other.1 ∙ has
    ]
  ],
)

-- ---- the bits of types in their window

-- octets of a whole window that have the bits of the lower octets of types
pub record AreBitsOf (types octets : List ℕ) : Type 0 where
  pub len : length octets ≡ 32
  pub bits : (k : ℕ) → HasBit octets k ↔ HavePlace types k

-- nothing is in an empty list
pub none_in : (n : ℕ) → Contains [] n → ⊥
none_in n (k, short, is) = omega (arith, short)

zeros_once : (k : ℕ) (octets : List ℕ) → AllByRecursion (λ c. c ≡ 0) octets → get_or octets k 0 ≡ 0
zeros_once k [] each = get_or_past {X = ℕ} [] k 0 (omega arith)
zeros_once zero (c ∷ octets) each = each.0
zeros_once (suc k) (c ∷ octets) each = zeros_once k octets each.1

-- octets of 0 are those of no types
pub none_of : (octets : List ℕ) → length octets ≡ 32 → AllByRecursion (λ c. c ≡ 0) octets → AreBitsOf [] octets
none_of octets len each = record {
  len = len;
  bits = λ k. (
    λ has. absurd (let bad : bit_at 0 (7 - k % 8) ≡ 1 = sym (ap (λ c. bit_at c (7 - k % 8)) (zeros_once (k / 8) octets each)) ∙ has in omega (arith, bit_at-zero (7 - k % 8))),
    λ h. absurd (none_in h.0 h.1.0),
  );
}

-- those of one more type
lower_grown : (types : List ℕ) (x : ℕ) (bits new : List ℕ) → AreBitsOf types bits → length new ≡ 32 → ((k : ℕ) → HasBit new k ↔ ((k ≡ x % 256) ⊎ HasBit bits k)) → AreBitsOf (types ++ x ∷ []) new
lower_grown types x bits new have len set = record {
  len = len;
  bits = λ k. (
    λ h. elim ((set k).0 h) [
      | inl own ↦ (x, (Contains-push types x, sym own))
      | inr before ↦ let among = (have.bits k).0 before in (among.0, (Contains-append_left types (x ∷ []) among.0 among.1.0, among.1.1))
    ],
    λ h. (set k).1 (elim (Contains-push_cases types x h.0 h.1.0) [
      | inl among ↦ inr ((have.bits k).1 (h.0, (among, h.1.1)))
      | inr last ↦ inl (sym h.1.1 ∙ ap (λ (n : ℕ). n % 256) (sym last))
    ]),
  );
}

pub more_bits : (types : List ℕ) (i x at : ℕ) (bits new : List ℕ) → i < length types → x ≡ get_or types i 0 → AreBitsOf (take i types) bits → at ≡ x % 256 / 8 → new ≡ set bits at (bit_or (get_or bits at 0) (1 * 2 ^ (7 - x % 8) % 2 ^ 8)) → AreBitsOf (take (i + 1) types) new
more_bits types i x at bits new inside is have place written =
    let bit : x % 256 % 8 ≡ x % 8 = omega arith in
    let wrote : new ≡ with_bit bits (x % 256) = written ∙ ap (λ (i : ℕ). set bits i (bit_or (get_or bits i 0) (1 * 2 ^ (7 - x % 8) % 2 ^ 8))) place ∙ ap (λ (b : ℕ). set bits (x % 256 / 8) (bit_or (get_or bits (x % 256 / 8) 0) (1 * 2 ^ (7 - b) % 2 ^ 8))) (sym bit) in
    let short : x % 256 / 8 < length bits = omega (arith, have.len) in
    let P : List ℕ → ℕ → Type 0 = λ l k. HasBit l k in
    let grown = lower_grown (take i types) x bits new have (ap length wrote ∙ length-set bits (x % 256 / 8) _ ∙ have.len) (λ k. let more = one_more bits (x % 256) k short in (λ h. more.0 (subst (λ l. P l k) wrote h), λ h. subst (λ l. P l k) (sym wrote) (more.1 h))) in
    subst (λ (l : List ℕ). AreBitsOf l new) (sym (take_more types i 0 inside ∙ ap (λ (n : ℕ). take i types ++ n ∷ []) (sym is))) grown

-- ---- one window

-- the octets up to the last that isn't 0 have all bits
cut_octet : (bits : List ℕ) (len k : ℕ) → ((k : ℕ) → len ≤ k → get_or bits k 0 ≡ 0) → get_or (take len bits) k 0 ≡ get_or bits k 0
cut_octet bits len k zeros =
    elim (cases_lt k len) [
      | inl below ↦ get_or-take len bits k 0 below
      | inr past ↦ get_or_past (take len bits) k 0 (let l = length-take len bits in omega arith) ∙ sym (zeros k past)
    ]

-- lists with the same octets have the same bits
same_bits : (bits old : List ℕ) (n : ℕ) → ((k : ℕ) → get_or bits k 0 ≡ get_or old k 0) → bit_at (get_or bits (n / 8) 0) (7 - n % 8) ≡ bit_at (get_or old (n / 8) 0) (7 - n % 8)
same_bits bits old n same = ap (λ c. bit_at c (7 - n % 8)) (same (n / 8))

pub one_window : (number : ℕ) (bits old new : List ℕ) (len : ℕ) → number < 256 → ((k : ℕ) → get_or bits k 0 < 256) → length bits ≤ 32 → len ≤ length bits → 0 < len → get_or bits (len - 1) 0 ≢ 0 → ((k : ℕ) → len ≤ k → get_or bits k 0 ≡ 0) → new ≡ (old ++ (number ∷ len ∷ [])) ++ take len bits → AppendsWindow number bits old new
one_window number bits old new len below octets short few some last zeros written =
    let count : length (take len bits) ≡ len = let l = length-take len bits in omega arith in
    let w : Window = record { number = number; bits = take len bits } in
    window w
    (record {
      number = below;
      some = omega arith;
      few = omega arith;
      octets = recursion_from_All (λ c. c < 256) (take len bits) (λ k d inside. let e = get_or_default (take len bits) k d 0 inside in omega (arith, e, cut_octet bits len k zeros, octets k));
      last = λ zero. last (sym (cut_octet bits len (len - 1) zeros) ∙ ap (λ (n : ℕ). get_or (take len bits) (n - 1) 0) (sym count) ∙ zero);
    })
    refl
    (λ n. let e = same_bits (take len bits) bits n (λ k. cut_octet bits len k zeros) in (λ h. sym e ∙ h, λ h. e ∙ h))
    (written ∙ append_assoc old (number ∷ len ∷ []) (take len bits) ∙ ap (λ (n : ℕ). old ++ (number ∷ n ∷ take len bits)) (sym count))

-- ---- windows, one after another

-- the windows of the types before the rest are written, and no type of the rest has one of them
pub record HavePushed (types rest old new : List ℕ) : Type 0 where
  pub done : List ℕ
  pub parts : types ≡ done ++ rest
  pub windows : List Window
  pub written : new ≡ old ++ flat_map window_octets windows
  pub each : AllByRecursion IsWindow windows
  pub ascend : AscendFrom 0 windows
  pub least : ℕ
  pub below : AllByRecursion (λ w. w.number < least) windows
  pub rise : RiseFrom (least * 256) rest
  pub have : (n : ℕ) → HaveType windows n ↔ Contains done n

pub ascend_more : (least count : ℕ) (windows : List Window) (w : Window) → AscendFrom least windows → AllByRecursion (λ v. v.number < count) windows → least ≤ w.number → count ≤ w.number → AscendFrom least (windows ++ w ∷ [])
ascend_more least count [] w up below from more = (from, tt)
ascend_more least count (v ∷ windows) w up below from more =
    (up.0, ascend_more (v.number + 1) count windows w up.1 below.1 (omega (arith, below.0)) more)

pub below_more_windows : (count more : ℕ) (windows : List Window) → count ≤ more → AllByRecursion (λ v. v.number < count) windows → AllByRecursion (λ v. v.number < more) windows
below_more_windows count more [] up below = tt
below_more_windows count more (v ∷ windows) up below =
    (omega (arith, below.0), below_more_windows count more windows up below.1)

-- the type is in one more window
abbrev InWindow : Window → ℕ → Type 0
InWindow w n = (n / 256 ≡ w.number) × HasBit w.bits (n % 256)

pub in_more : (windows : List Window) (w : Window) (n : ℕ) → HaveType (windows ++ w ∷ []) n → HaveType windows n ⊎ InWindow w n
in_more [] w n have = elim have [ inl here ↦ inr here | inr none ↦ absurd none ]
in_more (v ∷ windows) w n have =
    elim have [
      | inl here ↦ inl (inl here)
      | inr rest ↦ elim (in_more windows w n rest) [
        | inl among ↦ inl (inr among)
        | inr last ↦ inr last
      ]
    ]

pub more_in : (windows : List Window) (w : Window) (n : ℕ) → HaveType windows n ⊎ InWindow w n → HaveType (windows ++ w ∷ []) n
more_in [] w n have = elim have [ inl none ↦ absurd none | inr here ↦ inl here ]
more_in (v ∷ windows) w n have =
    elim have [
      | inl among ↦ elim among [
        | inl here ↦ inl here
        | inr rest ↦ inr (more_in windows w n (inl rest))
      ]
      | inr last ↦ inr (more_in windows w n (inr last))
    ]

-- types that are all of one window
abbrev pub AreOf : ℕ → List ℕ → Type 0
AreOf high types = AllByRecursion (λ n. n / 256 ≡ high) types

of_window : (high : ℕ) (types : List ℕ) (n : ℕ) → AreOf high types → Contains types n → n / 256 ≡ high
of_window high types n are among = All-contains (λ m. m / 256 ≡ high) types n (All-from_recursion (λ m. m / 256 ≡ high) types are) among

-- a type of the window is one of these where its bit is theirs
in_own : (w : Window) (own : List ℕ) (n : ℕ) → AreOf w.number own → ((k : ℕ) → HasBit w.bits k ↔ HavePlace own k) → InWindow w n ↔ Contains own n
in_own w own n are bits = (
  λ h. let among = (bits (n % 256)).0 h.1 in
      let higher : among.0 / 256 ≡ w.number = of_window w.number own among.0 are among.1.0 in
      let same : among.0 ≡ n = omega (arith, among.1.1, h.0) in
      subst (Contains own) same among.1.0,
  λ c. (of_window w.number own n are c, (bits (n % 256)).1 (n, (c, refl))),
)

-- the types after those of a window are of greater ones
rise_past : (low high : ℕ) (own after : List ℕ) → RiseFrom low (own ++ after) → low / 256 ≡ high → AreOf high own → (0 < length after → get_or after 0 0 / 256 ≢ high) → RiseFrom ((high + 1) * 256) after
rise_past low high [] [] rise at are other = tt
rise_past low high [] (n ∷ after) rise at are other = let o : n / 256 ≢ high = other (omega arith) in (omega (arith, rise.0), rise.1)
rise_past low high (n ∷ own) after rise at are other = rise_past n high own after rise.1 are.0 are.1 other

-- the first of the types that rise is none of a window below
rise_own : (least high : ℕ) (own after : List ℕ) → RiseFrom (least * 256) (own ++ after) → 0 < length own → AreOf high own → (0 < length after → get_or after 0 0 / 256 ≢ high) → (least ≤ high) × RiseFrom ((high + 1) * 256) after
rise_own least high [] after rise some are other = absurd (omega arith)
rise_own least high (n ∷ own) after rise some are other = (omega (arith, rise.0, are.0), rise_past n high own after rise.1 are.0 are.1 other)

more_pushed : (types rest own after octets old mid new : List ℕ) (number : ℕ) → HavePushed types rest old mid → rest ≡ own ++ after → 0 < length own → AreOf number own → (0 < length after → get_or after 0 0 / 256 ≢ number) → ((k : ℕ) → HasBit octets k ↔ HavePlace own k) → AppendsWindow number octets mid new → HavePushed types after old new
more_pushed types rest own after octets old mid new number have parted some are other places (nothing none same) =
    let first = get_or own 0 0 in
    absurd (none (first % 256) ((places (first % 256)).1 (first, (Contains-get_or own 0 0 some, refl))))
more_pushed types rest own after octets old mid new number have parted some are other places (window w is its same written) =
    let rise = rise_own have.least number own after (subst (RiseFrom (have.least * 256)) parted have.rise) some are other in
    let theirs : AreOf w.number own = subst (λ (n : ℕ). AreOf n own) (sym its) are in
    let bits : (k : ℕ) → HasBit w.bits k ↔ HavePlace own k = λ k. (λ h. (places k).0 ((same k).0 h), λ h. (same k).1 ((places k).1 h)) in
    record {
      done = have.done ++ own;
      parts = have.parts ∙ ap (λ l. have.done ++ l) parted ∙ sym (append_assoc have.done own after);
      windows = have.windows ++ w ∷ [];
      written = written ∙ ap (λ l. l ++ window_octets w) have.written ∙ append_assoc old (flat_map window_octets have.windows) (window_octets w) ∙ ap (λ l. old ++ l) (ap (λ l. flat_map window_octets have.windows ++ l) (sym (append-nil (window_octets w))) ∙ sym (flat_map-append window_octets have.windows (w ∷ [])));
      each = AllByRecursion-append IsWindow have.windows (w ∷ []) have.each (is, tt);
      ascend = ascend_more 0 have.least have.windows w have.ascend have.below (omega arith) (omega (arith, rise.0, its));
      least = number + 1;
      below = AllByRecursion-append (λ v. v.number < number + 1) have.windows (w ∷ []) (below_more_windows have.least (number + 1) have.windows (omega (arith, rise.0)) have.below) (omega (arith, its), tt);
      rise = rise.1;
      have = λ n. (
        λ among. elim (in_more have.windows w n among) [
          | inl before ↦ Contains-append_left have.done own n ((have.have n).0 before)
          | inr last ↦ Contains-append_right have.done own n ((in_own w own n theirs bits).0 last)
        ],
        λ has. more_in have.windows w n (elim (Contains-append_cases have.done own n has) [
          | inl before ↦ inl ((have.have n).1 before)
          | inr last ↦ inr ((in_own w own n theirs bits).1 last)
        ]),
      );
    }

-- the first type is one of those at the front
some_front : (rest : List ℕ) (first n : ℕ) → Some first ≡ slice_get rest 0 → (n < length rest → get_or rest n 0 / 256 ≢ first / 256) → 0 < n
some_front [] first n is other = absurd (let bad : Some first ≡ None = is in cc)
some_front (m ∷ rest) first zero is other = absurd (other (omega arith) (let same : first ≡ m = cc is in ap (λ n. n / 256) (sym same)))
some_front (m ∷ rest) first (suc n) is other = omega arith

pub pushed_on : (types rest front back octets old mid new : List ℕ) (first n : ℕ) → HavePushed types rest old mid → Some first ≡ slice_get rest 0 → n ≤ length rest → AreOf (first / 256) (take n rest) → (n < length rest → get_or rest n 0 / 256 ≢ first / 256) → front ≡ take n rest → back ≡ drop n rest → ((k : ℕ) → HasBit octets k ↔ HavePlace front k) → AppendsWindow (first / 256) octets mid new → HavePushed types back old new
pushed_on types rest front back octets old mid new first n have is within own other begins goes places more =
    let some : 0 < length front = rw begins (let l = length-take n rest in omega (arith, some_front rest first n is other)) in
    let after : 0 < length back → get_or back 0 0 / 256 ≢ first / 256 = rw goes (λ left same. other (let l = length-drop n rest in omega arith) (ap (λ m. m / 256) (ap (λ (i : ℕ). get_or rest i 0) (sym (add-zero n)) ∙ sym (get_or-drop n rest 0 0)) ∙ same)) in
    more_pushed types rest front back octets old mid new (first / 256) have (sym (rw (begins, goes) (take-append-drop n rest))) some (rw begins own) after places more

pub none_pushed : (types old : List ℕ) → RiseFrom 0 types → HavePushed types types old old
none_pushed types old rise = record {
  done = [];
  parts = refl;
  windows = [];
  written = sym (append-nil old);
  each = tt;
  ascend = tt;
  least = 0;
  below = tt;
  rise = rise;
  have = λ n. (λ none. absurd none, λ has. absurd (none_in n has));
}

pub all_pushed : (types rest old new : List ℕ) → HavePushed types rest old new → rest ≡ [] → AppendsStated (IsBitmapOf (Contains types)) old new
all_pushed types rest old new have none = record {
  octets = flat_map window_octets have.windows;
  stated = record {
    windows = have.windows;
    parts = refl;
    each = have.each;
    ascend = have.ascend;
    types = λ n. rw (have.parts ∙ ap (λ l. have.done ++ l) none ∙ append-nil have.done) (have.have n);
  };
  written = have.written;
}
