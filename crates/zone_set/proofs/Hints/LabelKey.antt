-- The key of labels has the order of the labels, as far as it tells them apart.
use Rattle.zone_set.proofs.Common.{AllByRecursion, AllByRecursion-append, AreDigits, Bool, Equal, Greater, IsLabel, Less, List, MatchOrdering, Ordering, [], ap, arith, eq-eqb, false, first_digits, if◌then◌else◌, inl, inr, label_cmp, length, min, name_cmp, nat_cmp, octets_key, ordering_then, owner_key, ranked, refl, reverse, reverse-append, slice_cmp, subst, suc, sym, true, zero, ℕ, ⊎_elim, ◌*◌, ◌++◌, ◌+◌, ◌-◌, ◌<◌, ◌==◌, ◌^◌, ◌∙◌, ◌∷◌, ◌≡◌, ◌≤◌, ◌⊎◌}
use Rattle.std.proofs.Math.Nat.{le-min, le_trans, min-le_left, min-le_right}
use Rattle.zone_set.specs.Machine.LabelKey.{inner_digit, labels_key, last_digit, octet_digit, own_below}

min_more : (a b n : ℕ) → a ≤ b → min a n ≤ min b n
min_more a b n le = le-min (le_trans (min-le_left a n) le) (min-le_right a n)

-- as many octets with digits of their own are below a greater octet, or more
pub own_more : (c d : ℕ) → c ≤ d → own_below c ≤ own_below d
own_more c d le =
    let low = min_more (c - 33) (d - 33) 32 (omega (arith, le)) in
    let high = min_more (c - 95) (d - 95) 28 (omega (arith, le)) in
    omega (arith, low, high)

-- and at most one more than below the one before it
pub own_step : (c : ℕ) → own_below (c + 1) ≤ own_below c + 1
own_step c = grind arith

pub own_most : (c : ℕ) → own_below c ≤ 60
own_most c = let low = min-le_right (c - 33) 32 in let high = min-le_right (c - 95) 28 in omega (arith, low, high)

-- so they are digits
pub inner_low : (c : ℕ) → inner_digit c < 128
inner_low c = let own = own_most c in let next = own_most (c + 1) in omega (arith, own, next)

digit_low : (c : ℕ) (octets : List ℕ) → octet_digit c octets < 128
digit_low c [] = let own = own_most c in omega (arith, own)
digit_low c (d ∷ octets) = inner_low c

pub octets_low : (label after : List ℕ) → AreDigits after → AreDigits (octets_key label after)
octets_low [] after low = low
octets_low (c ∷ label) after low = by (own_below c == own_below (c + 1)) (octets_low label after low)
  where
    by : (shared : Bool) → AreDigits (octets_key label after) → AreDigits (octet_digit c label ∷ (if shared then [] else octets_key label after))
    by true more = (digit_low c label, tt)
    by false more = (digit_low c label, more)

labels_low : (labels : List (List ℕ)) (after : List ℕ) → AreDigits after → AreDigits (labels_key labels after)
labels_low [] after low = low
labels_low (label ∷ labels) after low = octets_low label (labels_key labels after) (labels_low labels after low)

pub owner_low : (owner : List (List ℕ)) → AreDigits (owner_key owner)
owner_low owner = labels_low (reverse owner) [] tt

-- the digit of an octet between those of octets before and after it
last_least : (c : ℕ) (octets : List ℕ) → last_digit c ≤ octet_digit c octets
last_least c [] = omega arith
last_least c (d ∷ octets) = let more = own_more c (c + 1) (omega arith) in omega (arith, more)

inner_most : (c : ℕ) (octets : List ℕ) → octet_digit c octets ≤ inner_digit c
inner_most c [] = let more = own_more c (c + 1) (omega arith) in omega (arith, more)
inner_most c (d ∷ octets) = omega arith

-- an octet whose digit is that of a greater one or more has none of its own
less_shared : (c d : ℕ) (a b : List ℕ) → d < c → octet_digit c a ≤ octet_digit d b → (own_below d == own_below (d + 1)) ≡ true
less_shared c d a b lt le =
    let more = own_more (d + 1) c (omega (arith, lt)) in
    let next = own_more d (d + 1) (omega arith) in
    let low = last_least c a in let high = inner_most d b in
    eq-eqb (own_below d) (own_below (d + 1)) (omega (arith, more, next, low, high, le))

no_less : (digits : List ℕ) → slice_cmp nat_cmp digits [] ≡ Less → ⊥
no_less [] less = let no : Equal ≡ Less = less in cc
no_less (d ∷ digits) less = let no : Greater ≡ Less = less in cc

-- digits that stand before others differ at first or later
first_less : (p q : ℕ) (u v : List ℕ) → slice_cmp nat_cmp (p ∷ u) (q ∷ v) ≡ Less → (p < q) ⊎ ((p ≡ q) × (slice_cmp nat_cmp u v ≡ Less))
first_less p q u v less = by (nat_cmp p q) (ranked p q _ refl) refl
  where
    by : (o : Ordering) → MatchOrdering o (p < q) (p ≡ q) (q < p) → nat_cmp p q ≡ o → (p < q) ⊎ ((p ≡ q) × (slice_cmp nat_cmp u v ≡ Less))
    by Less lt is = inl lt
    by Equal same is = inr (same, sym (ap (λ o. ordering_then o (slice_cmp nat_cmp u v)) is) ∙ less)
    by Greater gt is = let no : Greater ≡ Less = sym (ap (λ o. ordering_then o (slice_cmp nat_cmp u v)) is) ∙ less in cc

-- what follows the digit of an octet
abbrev tail : ℕ → List ℕ → List ℕ
tail c digits = if own_below c == own_below (c + 1) then [] else digits

none_after : (c : ℕ) (u v : List ℕ) → (own_below c == own_below (c + 1)) ≡ true → slice_cmp nat_cmp u (tail c v) ≡ Less → ⊥
none_after c u v shared less = no_less u (subst (λ s. slice_cmp nat_cmp u (if s then [] else v) ≡ Less) shared less)

tails_less : (c : ℕ) (u v : List ℕ) → slice_cmp nat_cmp (tail c u) (tail c v) ≡ Less → slice_cmp nat_cmp u v ≡ Less
tails_less c u v = by (own_below c == own_below (c + 1))
  where
    by : (shared : Bool) → slice_cmp nat_cmp (if shared then [] else u) (if shared then [] else v) ≡ Less → slice_cmp nat_cmp u v ≡ Less
    by true less = absurd (no_less [] less)
    by false less = less

-- after one digit
after_less : (d : ℕ) (u v : List ℕ) → slice_cmp nat_cmp (d ∷ u) (d ∷ v) ≡ Less → slice_cmp nat_cmp u v ≡ Less
after_less d u v less = ⊎_elim (λ lt. absurd (omega (arith, lt))) (λ both. both.1) (first_less d d u v less)

-- the keys of labels of one first octet, if what follows it does so
same_first : (c : ℕ) (a b x y : List ℕ) (o : Ordering) → (slice_cmp nat_cmp x y ≡ Less → o ≡ Less)
    → (0 < length a → 0 < length b → slice_cmp nat_cmp (octets_key a x) (octets_key b y) ≡ Less → ordering_then (label_cmp a b) o ≡ Less)
    → slice_cmp nat_cmp (octets_key (c ∷ a) x) (octets_key (c ∷ b) y) ≡ Less → ordering_then (label_cmp a b) o ≡ Less
same_first c [] [] x y o rest go less = rest (tails_less c x y (after_less (last_digit c) (tail c x) (tail c y) less))
same_first c [] (e ∷ b) x y o rest go less = refl
same_first c (e ∷ a) [] x y o rest go less =
    let next = own_more c (c + 1) (omega arith) in
    absurd (⊎_elim (λ lt. omega (arith, lt, next))
    (λ both. none_after c (tail c (octets_key (e ∷ a) x)) y (eq-eqb (own_below c) (own_below (c + 1)) (omega (arith, both.0))) both.1)
    (first_less (inner_digit c) (last_digit c) (tail c (octets_key (e ∷ a) x)) (tail c y) less))
same_first c (e ∷ a) (f ∷ b) x y o rest go less =
    go (omega arith) (omega arith)
    (tails_less c (octets_key (e ∷ a) x) (octets_key (f ∷ b) y) (after_less (inner_digit c) (tail c (octets_key (e ∷ a) x)) (tail c (octets_key (f ∷ b) y)) less))

-- where the key of one label and what follows it is less, so are these
octets_less : (a b x y : List ℕ) (o : Ordering) → 0 < length a → 0 < length b → (slice_cmp nat_cmp x y ≡ Less → o ≡ Less)
    → slice_cmp nat_cmp (octets_key a x) (octets_key b y) ≡ Less → ordering_then (label_cmp a b) o ≡ Less
octets_less [] b x y o some more rest less = absurd (omega (arith, some))
octets_less (c ∷ a) [] x y o some more rest less = absurd (omega (arith, more))
octets_less (c ∷ a) (d ∷ b) x y o some more rest less = by (nat_cmp c d) (ranked c d _ refl) refl (λ one other. octets_less a b x y o one other rest)
  where
    by : (p : Ordering) → MatchOrdering p (c < d) (c ≡ d) (d < c) → nat_cmp c d ≡ p
        → (0 < length a → 0 < length b → slice_cmp nat_cmp (octets_key a x) (octets_key b y) ≡ Less → ordering_then (label_cmp a b) o ≡ Less)
        → ordering_then (label_cmp (c ∷ a) (d ∷ b)) o ≡ Less
    by Less lt is go = ap (λ p. ordering_then (ordering_then p (label_cmp a b)) o) is
    by Equal same is go =
        ap (λ p. ordering_then (ordering_then p (label_cmp a b)) o) is
        ∙ same_first c a b x y o rest go (subst (λ e. slice_cmp nat_cmp (octets_key (c ∷ a) x) (octets_key (e ∷ b) y) ≡ Less) (sym same) less)
    by Greater gt is go =
        absurd (⊎_elim
        (λ lt. let more = own_more (d + 1) c (omega (arith, gt)) in let low = last_least c a in let high = inner_most d b in let next = own_more d (d + 1) (omega arith) in omega (arith, lt, more, low, high, next))
        (λ both. none_after d (tail c (octets_key a x)) (octets_key b y) (less_shared c d a b gt (omega (arith, both.0))) both.1)
        (first_less (octet_digit c a) (octet_digit d b) (tail c (octets_key a x)) (tail d (octets_key b y)) less))

labels_less : (a b : List (List ℕ)) → AllByRecursion IsLabel a → AllByRecursion IsLabel b → slice_cmp nat_cmp (labels_key a []) (labels_key b []) ≡ Less → slice_cmp label_cmp a b ≡ Less
labels_less a [] each others less = absurd (no_less (labels_key a []) less)
labels_less [] (m ∷ b) each others less = refl
labels_less (l ∷ a) (m ∷ b) each others less =
    octets_less l m (labels_key a []) (labels_key b []) (slice_cmp label_cmp a b) each.0.some others.0.some (labels_less a b each.1 others.1) less

pub labels_reverse : (labels : List (List ℕ)) → AllByRecursion IsLabel labels → AllByRecursion IsLabel (reverse labels)
labels_reverse [] each = tt
labels_reverse (label ∷ labels) each = subst (AllByRecursion IsLabel) (sym (reverse-append (label ∷ []) labels)) (AllByRecursion-append IsLabel (reverse labels) (label ∷ []) (labels_reverse labels each.1) (each.0, tt))

-- the owner of a lesser key is less
pub owners_less : (a b : List (List ℕ)) → AllByRecursion IsLabel a → AllByRecursion IsLabel b → slice_cmp nat_cmp (owner_key a) (owner_key b) ≡ Less → name_cmp a b ≡ Less
owners_less a b each others less = labels_less (reverse a) (reverse b) (labels_reverse a each) (labels_reverse b others) less

-- the key of an owner with one more label at its right
pub owner_key-push : (owner : List (List ℕ)) (label : List ℕ) → owner_key (owner ++ label ∷ []) ≡ octets_key label (owner_key owner)
owner_key-push owner label = ap (λ ls. labels_key ls []) (reverse-append owner (label ∷ []))

pub labels_key-append : (a b : List (List ℕ)) (x : List ℕ) → labels_key (a ++ b) x ≡ labels_key a (labels_key b x)
labels_key-append [] b x = refl
labels_key-append (l ∷ a) b x = ap (octets_key l) (labels_key-append a b x)

-- where there are as many octets, those to their left don't count
pub octets_enough : (n : ℕ) (label x y : List ℕ) → ((m : ℕ) → m + length label ≡ n → first_digits m x ≡ first_digits m y) → first_digits n (octets_key label x) ≡ first_digits n (octets_key label y)
octets_enough n [] x y same = same n (omega arith)
octets_enough zero (c ∷ label) x y same = refl
octets_enough (suc n) (c ∷ label) x y same = by (own_below c == own_below (c + 1)) (octets_enough n label x y (λ m is. same m (omega (arith, is))))
  where
    by : (shared : Bool) → first_digits n (octets_key label x) ≡ first_digits n (octets_key label y) → octet_digit c label * 128 ^ n + first_digits n (if shared then [] else octets_key label x)
        ≡ octet_digit c label * 128 ^ n + first_digits n (if shared then [] else octets_key label y)
    by true more = refl
    by false more = ap (λ m. octet_digit c label * 128 ^ n + m) more
