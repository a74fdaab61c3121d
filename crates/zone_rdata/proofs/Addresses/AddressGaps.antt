-- Two colons in a row: where an address has them.
use Rattle.zone_rdata.proofs.Common.{[], ◌≡◌, ◌≢◌, ℕ, zero, suc, ◌+◌, ◌-◌, ◌<◌, ◌≤◌, Bool, true, false, List, ◌∷◌, ◌++◌, length, take, drop, replicate, refl, sym, ap, ◌∙◌, arith, append_assoc, length-append, take_at, drop_at, drop_more, drop_all, drop-replicate, replicate-append-replicate, length-replicate, append-nil, get_or_at, get_or_append_left, take-append-drop, cases_lt, AddressPart, AreParts, parts_text, ArePartsOf, AreAround, IsIpv6Address, eight, fewer, Lacks, HasGapAt}
use Rattle.zone_rdata.proofs.Addresses.Cut.{group_lacks, last_lacks}
use Rattle.zone_rdata.proofs.Addresses.AddressParts.{parts_some, parts_unique, parts_length}

-- no two colons in a row, from the first octet on
abbrev NoGaps : List ℕ → Type 0
NoGaps [] = Unit {0}
NoGaps (c ∷ []) = Unit {0}
NoGaps (c ∷ d ∷ text) = (c ≡ 58 → d ≡ 58 → ⊥) × NoGaps (d ∷ text)

no_gaps_at : (text : List ℕ) (k : ℕ) → NoGaps text → HasGapAt text k → ⊥
no_gaps_at (c ∷ d ∷ text) zero none at = none.0 at.0 at.1
no_gaps_at (c ∷ d ∷ text) (suc k) none at = no_gaps_at (d ∷ text) k none.1 at
no_gaps_at text k none at = grind arith

no_gaps_tail : (c : ℕ) (text : List ℕ) → NoGaps (c ∷ text) → NoGaps text
no_gaps_tail c text none = grind arith

no_gaps_more : (c : ℕ) (text : List ℕ) → c ≢ 58 → NoGaps text → NoGaps (c ∷ text)
no_gaps_more c text other none = grind arith

no_gaps_run : (text rest : List ℕ) → Lacks 58 text → NoGaps rest → NoGaps (text ++ rest)
no_gaps_run [] rest lacks none = none
no_gaps_run (c ∷ text) rest lacks none = no_gaps_more c (text ++ rest) lacks.0 (no_gaps_run text rest lacks.1 none)

-- a part with a colon before it
no_gaps_part : (text rest : List ℕ) → 0 < length text → Lacks 58 text → NoGaps rest → NoGaps (58 ∷ text ++ rest)
no_gaps_part [] rest some lacks none = absurd (omega arith)
no_gaps_part (c ∷ text) rest some lacks none = (λ e f. lacks.0 f, no_gaps_run (c ∷ text) rest lacks none)

no_gaps_parts : (ends : Bool) (p : AddressPart) (parts : List AddressPart) (rest : List ℕ) → AreParts ends (p ∷ parts) → NoGaps rest → NoGaps (58 ∷ parts_text (p ∷ parts) ++ rest)
no_gaps_parts ends p [] rest are none = no_gaps_part p.text rest (parts_some ends p [] are) (last_lacks ends p are) none
no_gaps_parts ends p (q ∷ parts) rest are none = rw (append_assoc p.text (58 ∷ parts_text (q ∷ parts)) rest) (no_gaps_part p.text (58 ∷ parts_text (q ∷ parts) ++ rest) are.0.some (group_lacks 58 p refl are.0) (no_gaps_parts ends q parts rest are.1 none))

no_gaps_all : (ends : Bool) (parts : List AddressPart) (rest : List ℕ) → AreParts ends parts → NoGaps rest → NoGaps (parts_text parts ++ rest)
no_gaps_all ends [] rest are none = none
no_gaps_all ends (p ∷ parts) rest are none = no_gaps_tail 58 (parts_text (p ∷ parts) ++ rest) (no_gaps_parts ends p parts rest are none)

no_gaps_front : (parts : List AddressPart) → AreParts false parts → NoGaps (parts_text parts ++ 58 ∷ [])
no_gaps_front parts are = no_gaps_all false parts (58 ∷ []) are tt

-- the first of the places with two colons
pub record IsFirstGap (text : List ℕ) (at : ℕ) : Type 0 where
  pub here : HasGapAt text at
  pub none : (k : ℕ) → k < at → HasGapAt text k → ⊥

first_same : (text : List ℕ) (a b : ℕ) → IsFirstGap text a → IsFirstGap text b → a ≡ b
first_same text a b x y = grind (arith, cases_lt)

-- the groups before `::` end at the first gap
front_gap : (text front back octets : List ℕ) → text ≡ front ++ 58 ∷ 58 ∷ back → ArePartsOf false front octets → IsFirstGap text (length front)
front_gap text front back octets parted are =
    let regroup = parted ∙ sym (append_assoc front (58 ∷ []) (58 ∷ back)) in
    grind (arith, append_assoc, length-append, no_gaps_front, get_or_at, get_or_append_left, no_gaps_at)

parts_no_gap : (ends : Bool) (text octets : List ℕ) → ArePartsOf ends text octets → (k : ℕ) → HasGapAt text k → ⊥
parts_no_gap ends text octets are k at = no_gaps_at text k (rw (are.parted, ← (append-nil (parts_text are.parts))) (no_gaps_all ends are.parts [] are.each tt)) at

-- a text without `::` has eight groups or is refused
pub refused_without_gap : (text : List ℕ) → ((k : ℕ) → HasGapAt text k → ⊥) → ((octets : List ℕ) → ArePartsOf true text octets → length octets ≡ 16 → ⊥) → (octets : List ℕ) → IsIpv6Address text octets → ⊥
refused_without_gap text none refused octets (eight are len) = refused octets are len
refused_without_gap text none refused octets (fewer front back parted around) = none (length front) (front_gap text front back around.before parted around.front_parts).here

-- a text is cut at its first gap
around_gap : (text front back : List ℕ) (at : ℕ) (octets : List ℕ) → IsFirstGap text at → text ≡ front ++ 58 ∷ 58 ∷ back → AreAround front back octets → (front ≡ take at text) × (back ≡ drop (at + 2) text)
around_gap text front back at octets first parted around =
    let same = first_same text (length front) at (front_gap text front back around.before parted around.front_parts) first in
    let regroup = parted ∙ sym (append_assoc front (58 ∷ 58 ∷ []) back) in
    (sym (ap (take at) parted ∙ take_at front (58 ∷ 58 ∷ back) at same), sym (ap (drop (at + 2)) regroup ∙ drop_at (front ++ 58 ∷ 58 ∷ []) back (at + 2) (omega (arith, length-append front (58 ∷ 58 ∷ [])))))

pub refused_at_gap : (text back : List ℕ) (at : ℕ) → back ≡ drop (at + 2) text → IsFirstGap text at → ((octets : List ℕ) → AreAround (take at text) back octets → ⊥) → (octets : List ℕ) → IsIpv6Address text octets → ⊥
refused_at_gap text back at e first refused octets (eight are len) = parts_no_gap true text octets are at first.here
refused_at_gap text back at e first refused octets (fewer front' back' parted around) =
    let same = around_gap text front' back' at octets first parted around in
    refused octets (rw (← same.0, e, ← same.1) around)

pub found_at_gap : (text back : List ℕ) (at : ℕ) → back ≡ drop (at + 2) text → at + 2 ≤ length text → HasGapAt text at → (octets : List ℕ) → AreAround (take at text) back octets → IsIpv6Address text octets
found_at_gap text back at e inside gap octets around = fewer (take at text) back (grind (arith, drop_more, take-append-drop) ∙ ap (λ t. take at text ++ 58 ∷ 58 ∷ t) (sym e)) around

-- sixteen zeros with octets written over their front and their end
pub around_written : (before after first second : List ℕ) (n m a k : ℕ) → first ≡ before → second ≡ after → n ≡ length before → m ≡ length after → n + m ≤ 14 → a ≡ 16 - m → k ≡ 16 - a → take a (first ++ drop n (replicate 16 0)) ++ (second ++ drop k (drop a (first ++ drop n (replicate 16 0)))) ≡ before ++ (replicate (16 - length before - length after) 0 ++ after)
around_written before after first second n m a k f s ln lm room end rest =
    let zeros : List ℕ = replicate (16 - length before - length after) 0 in
    let tail : List ℕ = replicate m 0 in
    let count : 16 - n ≡ (16 - length before - length after) + m = omega arith in
    let split : drop n (replicate 16 0) ≡ zeros ++ tail = drop-replicate n 16 0 ∙ ap (λ j. replicate j 0) count ∙ sym (replicate-append-replicate (16 - length before - length after) m 0) in
    let whole : first ++ drop n (replicate 16 0) ≡ (before ++ zeros) ++ tail = ap (λ t. t ++ drop n (replicate 16 0)) f ∙ ap (λ t. before ++ t) split ∙ sym (append_assoc before zeros tail) in
    let len : length (before ++ zeros) ≡ a = omega (arith, length-append before zeros, length-replicate {A = ℕ} (16 - length before - length after) 0) in
    let front : take a (first ++ drop n (replicate 16 0)) ≡ before ++ zeros = ap (take a) whole ∙ take_at (before ++ zeros) tail a len in
    let back : drop k (drop a (first ++ drop n (replicate 16 0))) ≡ [] = ap (λ t. drop k (drop a t)) whole ∙ ap (drop k) (drop_at (before ++ zeros) tail a len) ∙ drop_all k tail (omega (arith, length-replicate {A = ℕ} m 0)) in
    cc (append-nil second, append_assoc before zeros after)

-- ---- a text is one address

pub groups_unique : (text a b : List ℕ) → IsIpv6Address text a → IsIpv6Address text b → a ≡ b
groups_unique text a b (eight x len) (eight y len') = parts_unique true text a b x y
groups_unique text a b (eight x len) (fewer front back parted around) = absurd (parts_no_gap true text a x (length front) (front_gap text front back around.before parted around.front_parts).here)
groups_unique text a b (fewer front back parted around) (eight y len) = absurd (parts_no_gap true text b y (length front) (front_gap text front back around.before parted around.front_parts).here)
groups_unique text a b (fewer front back parted x) (fewer front' back' parted' y) =
    let first = front_gap text front back x.before parted x.front_parts in
    let p = around_gap text front back (length front) a first parted x in
    let q = around_gap text front' back' (length front) b first parted' y in
    grind (arith, parts_unique false front x.before y.before x.front_parts, parts_unique true back x.after y.after x.back_parts)

pub ruleset octets_set_around = (around_written, parts_length)
