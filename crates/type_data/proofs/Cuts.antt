-- Texts that are cut at an octet in one place.
use Rattle.type_data.proofs.Common.{AllByRecursion, AllByRecursion-back, IsMissing, List, [], ap, false, refl, subst, sym, true, ℕ, ◌++◌, ◌∙◌, ◌∷◌, ◌≡◌, ◌≢◌}
use Rattle.zone_name.specs.Spelling.{is_digit}

-- where an octet stands it isn't missing
pub stands : (c : ℕ) (front back : List ℕ) → IsMissing c (front ++ c ∷ back) → ⊥
stands c front back missing =
    (AllByRecursion-back (λ d. d ≢ c) front (c ∷ back) missing).0 refl

pub stands_in : (c : ℕ) (text front back : List ℕ) → text ≡ front ++ c ∷ back → IsMissing c text → ⊥
stands_in c text front back parts missing =
    stands c front back (subst (IsMissing c) parts missing)

pub first_once : (c : ℕ) (front back other rest : List ℕ) → IsMissing c front → IsMissing c other → front ++ c ∷ back ≡ other ++ c ∷ rest → (front ≡ other) × (back ≡ rest)
first_once c [] back [] rest missing lacks e = (refl, cc)
first_once c [] back (x ∷ other) rest missing lacks e =
    let same : x ≡ c = cc in absurd (lacks.0 same)
first_once c (x ∷ front) back [] rest missing lacks e =
    let same : x ≡ c = cc in absurd (missing.0 same)
first_once c (x ∷ front) back (y ∷ other) rest missing lacks e =
    let same : x ≡ y = cc in
    let tails : front ++ c ∷ back ≡ other ++ c ∷ rest = cc in
    let more = first_once c front back other rest missing.1 lacks.1 tails in
    (cc (same, more.0), more.1)

pub last_once : (c : ℕ) (front back other rest : List ℕ) → IsMissing c back → IsMissing c rest → front ++ c ∷ back ≡ other ++ c ∷ rest → (front ≡ other) × (back ≡ rest)
last_once c [] back [] rest missing lacks e = (refl, cc)
last_once c [] back (x ∷ other) rest missing lacks e =
    let tails : back ≡ other ++ c ∷ rest = cc in
    absurd (stands_in c back other rest tails missing)
last_once c (x ∷ front) back [] rest missing lacks e =
    let tails : rest ≡ front ++ c ∷ back = cc in
    absurd (stands_in c rest front back tails lacks)
last_once c (x ∷ front) back (y ∷ other) rest missing lacks e =
    let same : x ≡ y = cc in
    let tails : front ++ c ∷ back ≡ other ++ c ∷ rest = cc in
    let more = last_once c front back other rest missing lacks tails in
    (cc (same, more.0), more.1)

other_digit : (c d : ℕ) → is_digit c ≡ false → is_digit d ≡ true → d ≢ c
other_digit c d miss hit e = cc (sym hit ∙ ap is_digit e ∙ miss)

-- digits lack any other octet
pub digits_lack : (c : ℕ) (text : List ℕ) → is_digit c ≡ false → AllByRecursion (λ d. is_digit d ≡ true) text → IsMissing c text
digits_lack c [] miss digits = tt
digits_lack c (d ∷ text) miss digits =
    (other_digit c d miss digits.0, digits_lack c text miss digits.1)
