-- In the order of names those at or below an apex stand together.
use Rattle.zone_set.proofs.Common.{◌≡◌, ◌≢◌, ℕ, List, [], ◌∷◌, ◌++◌, reverse, Greater, refl, sym, ap, ap₂, ◌∙◌, arith, nat_list_cmp_total, tied_itself, reverse-reverse, reverse-append, exact_bytes, slice_cmp, IsWithin, label_cmp, name_cmp}

-- labels that begin with others
abbrev Begins : List (List ℕ) → List (List ℕ) → Type 0
Begins labels front = (rest : List (List ℕ)) × (labels ≡ front ++ rest)

-- what lies between labels that begin so begins so
begins_between : (front us ys vs : List (List ℕ)) → slice_cmp label_cmp (front ++ us) ys ≢ Greater → slice_cmp label_cmp ys (front ++ vs) ≢ Greater → Begins ys front
begins_between [] us ys vs low high = (ys, refl)
begins_between (x ∷ front) us [] vs low high = absurd (low refl)
begins_between (x ∷ front) us (y ∷ ys) vs low high = grind (arith, begins_between front us ys vs, nat_list_cmp_total.antisymm y x, exact_bytes x y)

-- so does a name between two
pub within_between : (apex a b c : List (List ℕ)) → IsWithin a apex → IsWithin c apex → name_cmp a b ≢ Greater → name_cmp b c ≢ Greater → IsWithin b apex
within_between apex a b c in_a in_c low high =
    let found = begins_between (reverse apex) (reverse in_a.0) (reverse b) (reverse in_c.0) (rw (in_a.1, reverse-append) at low) (rw (in_c.1, reverse-append) at high) in
    (reverse found.0, sym (reverse-reverse b) ∙ ap reverse found.1 ∙ reverse-append (reverse apex) found.0 ∙ ap (λ ls. reverse found.0 ++ ls) (reverse-reverse apex))

-- lists that begin alike lie as what follows
alike_before : (xs us vs : List (List ℕ)) → slice_cmp label_cmp (xs ++ us) (xs ++ vs) ≡ slice_cmp label_cmp us vs
alike_before [] us vs = refl
alike_before (x ∷ xs) us vs = grind (arith, tied_itself nat_list_cmp_total x, alike_before xs us vs)

pub same_ending : (base us vs : List (List ℕ)) → name_cmp (us ++ base) (vs ++ base) ≡ name_cmp us vs
same_ending base us vs = ap₂ (slice_cmp label_cmp) (reverse-append us base) (reverse-append vs base) ∙ alike_before (reverse base) (reverse us) (reverse vs)

-- a name is not after those below it
pub below_after : (base front : List (List ℕ)) → name_cmp base (front ++ base) ≢ Greater
below_after base front later = grind (arith, same_ending base [] front)
