-- Records of different sets lie ls these sets do, whatever letters the names in their data have.
use Rattle.zone_set.proofs.Common.{[], ◌≡◌, ◌≢◌, ℕ, ◌==◌, List, ◌∷◌, take, refl, sym, ap, ◌∙◌, subst, arith, if◌then◌else◌, Bool, true, false, Ordering, Equal, Less, Greater, Record, data_of, covered_octets, InOneSet, nat_cmp, nat_cmp_total, nat_list_cmp_total, name_cmp, name_cmp-total, name_cmp-exact, exact_unsigned, exact_bytes, slice_cmp, on, on_total, then_cmp, then_total, tied_itself, ordering_then, IsTotalOrder, ⊎_elim, ◌⊎◌}
use Rattle.std.proofs.lemmas.Cmp.{alike_right}
use Rattle.zone_set.proofs.Ordering.SetOrder.{both_equal}
use Rattle.zone_digest.specs.Digest.{digest_cmp, IsLoweredRecord}
use Rattle.data_names.specs.NamesInData.{IsLowered, names_of}
use Rattle.data_names.proofs.Once.{two_kept}

abbrev pub covers : Record → List ℕ
covers r = covered_octets (data_of r)

-- by owner, class, type and the type covered
abbrev pub set_cmp : Record → Record → Ordering
set_cmp = then_cmp (on (λ r. r.owner) name_cmp) (then_cmp (on (λ r. r.class) nat_cmp) (then_cmp (on (λ r. r.kind) nat_cmp) (on covers (slice_cmp nat_cmp))))

pub set_total : IsTotalOrder set_cmp
set_total = then_total (on_total (λ r. r.owner) name_cmp-total) (then_total (on_total (λ r. r.class) nat_cmp_total) (then_total (on_total (λ r. r.kind) nat_cmp_total) (on_total covers nat_list_cmp_total)))

-- what the last of four orders decides another may decide
through_less : (a b c d e : Ordering) → (c ≡ Equal → d ≡ Less → e ≢ Greater) → ordering_then a (ordering_then b (ordering_then c d)) ≡ Less → ordering_then a (ordering_then b (ordering_then c e)) ≢ Greater
through_less a b c d e last less = grind (arith, last)

through_exact : (a b c d e : Ordering) → (c ≡ Equal → d ≡ Less → e ≡ Less) → ordering_then a (ordering_then b (ordering_then c d)) ≡ Less → ordering_then a (ordering_then b (ordering_then c e)) ≡ Less
through_exact a b c d e last less = grind (arith, last)

-- the first two octets lie ls the octets do, or are the same
first_two : (a b : List ℕ) → slice_cmp nat_cmp a b ≡ Less → slice_cmp nat_cmp (take 2 a) (take 2 b) ≢ Greater
first_two [] [] less = grind arith
first_two [] (b ∷ []) less = grind arith
first_two [] (b ∷ d ∷ bs) less = grind arith
first_two (a ∷ ls) [] less = grind arith
first_two (a ∷ []) (b ∷ []) less = grind arith
first_two (a ∷ []) (b ∷ d ∷ bs) less = grind arith
first_two (a ∷ c ∷ ls) (b ∷ []) less = grind arith
first_two (a ∷ c ∷ ls) (b ∷ d ∷ bs) less = grind arith

by_first_two : (a b : List ℕ) → slice_cmp nat_cmp (take 2 a) (take 2 b) ≡ Less → slice_cmp nat_cmp a b ≡ Less
by_first_two [] [] less = less
by_first_two [] (b ∷ bs) less = refl
by_first_two (a ∷ ls) [] less = grind arith
by_first_two (a ∷ []) (b ∷ []) less = less
by_first_two (a ∷ []) (b ∷ d ∷ bs) less = grind arith
by_first_two (a ∷ c ∷ ls) (b ∷ []) less = grind arith
by_first_two (a ∷ c ∷ ls) (b ∷ d ∷ bs) less = grind arith

low_covers : (x y : Bool) (a b : List ℕ) → x ≡ y → slice_cmp nat_cmp a b ≡ Less → slice_cmp nat_cmp (if x then take 2 a else []) (if y then take 2 b else []) ≢ Greater
low_covers true true a b same less = first_two a b less
low_covers false false a b same less = grind arith
low_covers true false a b same less = cc
low_covers false true a b same less = cc

by_covers : (x y : Bool) (a b : List ℕ) → x ≡ y → slice_cmp nat_cmp (if x then take 2 a else []) (if y then take 2 b else []) ≡ Less → slice_cmp nat_cmp a b ≡ Less
by_covers true true a b same less = by_first_two a b less
by_covers false false a b same less = grind arith
by_covers true false a b same less = cc
by_covers false true a b same less = cc

-- a record before another is of its set, or of one before that
pub not_after : (r s : Record) → digest_cmp r s ≡ Less → set_cmp r s ≢ Greater
not_after r s less = through_less (name_cmp r.owner s.owner) (nat_cmp r.class s.class) (nat_cmp r.kind s.kind) (slice_cmp nat_cmp r.octets s.octets) (slice_cmp nat_cmp (covers r) (covers s)) (λ kind low. low_covers (r.kind == 46) (s.kind == 46) r.octets s.octets (ap (λ k. k == 46) (exact_unsigned r.kind s.kind kind)) low) less

-- the records of a set are before those of a set after it
pub by_sets : (r s : Record) → set_cmp r s ≡ Less → digest_cmp r s ≡ Less
by_sets r s less = through_exact (name_cmp r.owner s.owner) (nat_cmp r.class s.class) (nat_cmp r.kind s.kind) (slice_cmp nat_cmp (covers r) (covers s)) (slice_cmp nat_cmp r.octets s.octets) (λ kind low. by_covers (r.kind == 46) (s.kind == 46) r.octets s.octets (ap (λ k. k == 46) (exact_unsigned r.kind s.kind kind)) low) less

-- ---- letters of names in data don't tell sets apart
covers_if : (k : ℕ) (octets low : List ℕ) (x : Bool) → (k == 46) ≡ x → IsLowered (names_of k octets) octets low → (if x then take 2 low else []) ≡ (if x then take 2 octets else [])
covers_if k octets low false is lowered = refl
covers_if k octets low true is lowered = two_kept octets low (subst (λ n. IsLowered (names_of n octets) octets low) (kind_is k is) lowered)
  where
    kind_is : (k : ℕ) → (k == 46) ≡ true → k ≡ 46
    kind_is k is = grind arith

pub same_covers : (r low : Record) → IsLoweredRecord r low → covers low ≡ covers r
same_covers r low is = ap (λ k. if k == 46 then take 2 low.octets else []) is.kind ∙ covers_if r.kind r.octets low.octets (r.kind == 46) refl is.octets

pub same_sets : (r s low other : Record) → IsLoweredRecord r low → IsLoweredRecord s other → set_cmp low other ≡ set_cmp r s
same_sets r s low other is iz =
    let one = same_covers r low is in
    let two = same_covers s other iz in
    let owner : name_cmp low.owner other.owner ≡ name_cmp r.owner s.owner = ap (λ o. name_cmp o other.owner) is.owner ∙ ap (name_cmp r.owner) iz.owner in
    let class : nat_cmp low.class other.class ≡ nat_cmp r.class s.class = ap (λ o. nat_cmp o other.class) is.class ∙ ap (nat_cmp r.class) iz.class in
    let kind : nat_cmp low.kind other.kind ≡ nat_cmp r.kind s.kind = ap (λ o. nat_cmp o other.kind) is.kind ∙ ap (nat_cmp r.kind) iz.kind in
    let last : slice_cmp nat_cmp (covers low) (covers other) ≡ slice_cmp nat_cmp (covers r) (covers s) = ap (λ o. slice_cmp nat_cmp o (covers other)) one ∙ ap (slice_cmp nat_cmp (covers r)) two in
    ap (λ o. ordering_then o (ordering_then (nat_cmp low.class other.class) (ordering_then (nat_cmp low.kind other.kind) (slice_cmp nat_cmp (covers low) (covers other))))) owner
    ∙ ap (λ o. ordering_then (name_cmp r.owner s.owner) (ordering_then o (ordering_then (nat_cmp low.kind other.kind) (slice_cmp nat_cmp (covers low) (covers other))))) class
    ∙ ap (λ o. ordering_then (name_cmp r.owner s.owner) (ordering_then (nat_cmp r.class s.class) (ordering_then o (slice_cmp nat_cmp (covers low) (covers other))))) kind
    ∙ ap (λ o. ordering_then (name_cmp r.owner s.owner) (ordering_then (nat_cmp r.class s.class) (ordering_then (nat_cmp r.kind s.kind) o))) last

-- the canonical forms of records of different sets
pub lowered_before : (r s low other : Record) → IsLoweredRecord r low → IsLoweredRecord s other → set_cmp r s ≡ Less → digest_cmp low other ≡ Less
lowered_before r s low other is iz less = by_sets low other (same_sets r s low other is iz ∙ less)

-- ---- sets
pub in_one_set : (r s : Record) → set_cmp r s ≡ Equal → InOneSet r s
in_one_set r s tied =
    let owners = both_equal _ _ tied in
    let classes = both_equal _ _ owners.1 in
    let kinds = both_equal _ _ classes.1 in
    record { owner = name_cmp-exact r.owner s.owner owners.0; kind = exact_unsigned r.kind s.kind kinds.0; covers = exact_bytes (covers r) (covers s) kinds.1 }

pub one_set_tied : (r s : Record) → r.class ≡ s.class → InOneSet r s → set_cmp r s ≡ Equal
one_set_tied r s class one =
    let owner : name_cmp r.owner s.owner ≡ Equal = ap (name_cmp r.owner) (sym one.owner) ∙ tied_itself name_cmp-total r.owner in
    let classes : nat_cmp r.class s.class ≡ Equal = ap (nat_cmp r.class) (sym class) ∙ tied_itself nat_cmp_total r.class in
    let kind : nat_cmp r.kind s.kind ≡ Equal = ap (nat_cmp r.kind) (sym one.kind) ∙ tied_itself nat_cmp_total r.kind in
    let last : slice_cmp nat_cmp (covers r) (covers s) ≡ Equal = ap (slice_cmp nat_cmp (covers r)) (sym one.covers) ∙ tied_itself nat_list_cmp_total (covers r) in
    ap (λ o. ordering_then o (ordering_then (nat_cmp r.class s.class) (ordering_then (nat_cmp r.kind s.kind) (slice_cmp nat_cmp (covers r) (covers s))))) owner
    ∙ ap (λ o. ordering_then o (ordering_then (nat_cmp r.kind s.kind) (slice_cmp nat_cmp (covers r) (covers s)))) classes
    ∙ ap (λ o. ordering_then o (slice_cmp nat_cmp (covers r) (covers s))) kind
    ∙ last

less_of : (o : Ordering) → o ≢ Greater → o ≢ Equal → o ≡ Less
less_of o a b = grind arith

-- a set before another is before all that is not before that
far : (s x y : Record) (o : Ordering) → set_cmp x y ≡ o → set_cmp s x ≡ Less → o ≢ Greater → set_cmp s y ≡ Less
far s x y Less known less not_greater = set_total.trans s x y less known
far s x y Equal known less not_greater = sym (alike_right set_total x y s known) ∙ less
far s x y Greater known less not_greater = absurd (not_greater refl)

-- a record of another set than the first is after all of its set, and so are those after it
pub after_set : (first s x y : Record) → set_cmp first s ≡ Equal → digest_cmp first x ≡ Less → (InOneSet first x → ⊥) → ((y ≡ x) ⊎ (digest_cmp x y ≡ Less)) → set_cmp s y ≡ Less
after_set first s x y tied less other later =
    let near : set_cmp first x ≡ Less = less_of (set_cmp first x) (not_after first x less) (λ same. other (in_one_set first x same)) in
    let of_s : set_cmp s x ≡ Less = sym (set_total.congr first s x tied) ∙ near in
    ⊎_elim (λ same. subst (λ t. set_cmp s t ≡ Less) (sym same) of_s) (λ more. far s x y (set_cmp x y) refl of_s (not_after x y more)) later
