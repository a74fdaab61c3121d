-- Octets are cut in one way at the first and at the last of some octets.
use Rattle.std.proofs.Common.{◌≡◌, ℕ, zero, suc, ◌+◌, ◌<◌, ◌==◌, ◌⊎◌, inl, inr, Bool, true, List, [], ◌∷◌, ◌++◌, length, take, drop, eq-eqb, refl, ap, arith, subst, sym, ◌∙◌}
use Rattle.std.proofs.lemmas.Bool.{eqb-true, or_cases}
use Rattle.std.specs.List.{AllByRecursion}
use Rattle.memchr.specs.Find.{Nowhere, Passes, is_byte, is_byte2}
use Rattle.words_print.specs.Machine.Found.{HasNoSpace, HasNone, IsAroundFirst, IsAroundLast}
use Rattle.words_print.specs.Shown.{IsAtAWord}

-- none of the octets is such a one
abbrev pub NoneOf : (ℕ → Type 0) → List ℕ → Type 0
NoneOf Is octets = AllByRecursion (λ c. Is c → ⊥) octets

pub none_behind : (Is : ℕ → Type 0) (a : List ℕ) (c : ℕ) (b : List ℕ) → Is c → NoneOf Is (a ++ c ∷ b) → ⊥
none_behind Is [] c b is none = none.0 is
none_behind Is (x ∷ a) c b is none = none_behind Is a c b is none.1

pub none_same : (Is : ℕ → Type 0) (octets a : List ℕ) (c : ℕ) (b : List ℕ) → Is c → NoneOf Is octets → octets ≡ a ++ c ∷ b → ⊥
none_same Is [] [] c b is none same = absurd cc
none_same Is [] (y ∷ a) c b is none same = absurd cc
none_same Is (x ∷ octets) [] c b is none same = none.0 (let e : x ≡ c = cc same in subst Is (sym e) is)
none_same Is (x ∷ octets) (y ∷ a) c b is none same = none_same Is octets a c b is none.1 (cc same)

pub record SameCut (a d b e : List ℕ) : Type 0 where
  pub front : a ≡ d
  pub back : b ≡ e

pub one_last : (Is : ℕ → Type 0) (a d b e : List ℕ) (c f : ℕ) → Is c → Is f → NoneOf Is b → NoneOf Is e → a ++ c ∷ b ≡ d ++ f ∷ e → SameCut a d b e
one_last Is [] [] b e c f pc pf nb ne same = record { front = refl; back = cc same }
one_last Is [] (y ∷ d) b e c f pc pf nb ne same = absurd (none_same Is b d f e pf nb (cc same))
one_last Is (x ∷ a) [] b e c f pc pf nb ne same = absurd (none_same Is e a c b pc ne (let h : a ++ c ∷ b ≡ e = cc same in sym h))
one_last Is (x ∷ a) (y ∷ d) b e c f pc pf nb ne same =
    let more = one_last Is a d b e c f pc pf nb ne (cc same) in
    let head : x ≡ y = cc same in
    record { front = cc (head, more.front); back = more.back }

pub one_first : (Is : ℕ → Type 0) (a d b e : List ℕ) (c f : ℕ) → Is c → Is f → NoneOf Is a → NoneOf Is d → a ++ c ∷ b ≡ d ++ f ∷ e → SameCut a d b e
one_first Is [] [] b e c f pc pf na nd same = record { front = refl; back = cc same }
one_first Is [] (y ∷ d) b e c f pc pf na nd same = absurd (none_same Is (y ∷ d) [] c d pc nd (let h : c ≡ y = cc same in ap (λ z. z ∷ d) (sym h)))
one_first Is (x ∷ a) [] b e c f pc pf na nd same = absurd (none_same Is (x ∷ a) [] f a pf na (let h : x ≡ f = cc same in ap (λ z. z ∷ a) h))
one_first Is (x ∷ a) (y ∷ d) b e c f pc pf na nd same =
    let more = one_first Is a d b e c f pc pf na.1 nd.1 (cc same) in
    let head : x ≡ y = cc same in
    record { front = cc (head, more.front); back = more.back }

-- ---- where a search finds such an octet

pub record IsAround (test : ℕ → Bool) (octets front back : List ℕ) : Type 0 where
  pub here : ℕ
  pub whole : octets ≡ front ++ here ∷ back
  pub passes : test here ≡ true

pub at_place : (test : ℕ → Bool) (octets : List ℕ) (k : ℕ) → k < length octets → Passes test octets k → IsAround test octets (take k octets) (drop 1 (drop k octets))
at_place test [] k inside here = absurd (omega (arith, inside))
at_place test (c ∷ octets) zero inside here = record { here = c; whole = refl; passes = here }
at_place test (c ∷ octets) (suc k) inside here =
    let rest = at_place test octets k (omega (arith, inside)) here in
    record { here = rest.here; whole = ap (λ t. c ∷ t) rest.whole; passes = rest.passes }

pub none_anywhere : (test : ℕ → Bool) (Is : ℕ → Type 0) → ((c : ℕ) → Is c → test c ≡ true) → (octets : List ℕ) → ((i : ℕ) → i < length octets → Passes test octets i → ⊥) → NoneOf Is octets
none_anywhere test Is tests [] none = tt
none_anywhere test Is tests (c ∷ octets) none = (λ is. none zero (omega arith) (tests c is), none_anywhere test Is tests octets (λ i high is. none (suc i) (omega (arith, high)) is))

pub none_before : (test : ℕ → Bool) (Is : ℕ → Type 0) → ((c : ℕ) → Is c → test c ≡ true) → (octets : List ℕ) (k : ℕ) → k < length octets → ((i : ℕ) → i < k → Passes test octets i → ⊥) → NoneOf Is (take k octets)
none_before test Is tests [] k inside none = absurd (omega (arith, inside))
none_before test Is tests (c ∷ octets) zero inside none = tt
none_before test Is tests (c ∷ octets) (suc k) inside none = (λ is. none zero (omega arith) (tests c is), none_before test Is tests octets k (omega (arith, inside)) (λ i high is. none (suc i) (omega (arith, high)) is))

pub none_after : (test : ℕ → Bool) (Is : ℕ → Type 0) → ((c : ℕ) → Is c → test c ≡ true) → (octets : List ℕ) (k : ℕ) → k < length octets → ((i : ℕ) → k < i → i < length octets → Passes test octets i → ⊥) → NoneOf Is (drop 1 (drop k octets))
none_after test Is tests [] k inside none = absurd (omega (arith, inside))
none_after test Is tests (c ∷ octets) zero inside none = none_anywhere test Is tests octets (λ i high is. none (suc i) (omega arith) (omega (arith, high)) is)
none_after test Is tests (c ∷ octets) (suc k) inside none = none_after test Is tests octets k (omega (arith, inside)) (λ i low high is. none (suc i) (omega (arith, low)) (omega (arith, high)) is)

-- ---- what stands around it

equal_passes : (c d : ℕ) → d ≡ c → (d == c) ≡ true
equal_passes c d same = eq-eqb d c same

drop_one : (k : ℕ) (octets : List ℕ) → drop 1 (drop k octets) ≡ drop (suc k) octets
drop_one zero [] = refl
drop_one zero (c ∷ octets) = refl
drop_one (suc k) [] = refl
drop_one (suc k) (c ∷ octets) = drop_one k octets

around : (c : ℕ) (octets front rest back : List ℕ) (k : ℕ) → front ≡ take k octets → rest ≡ drop k octets → back ≡ drop 1 rest → k < length octets → Passes (is_byte c) octets k → octets ≡ front ++ c ∷ back
around c octets front rest back k front_is rest_is back_is inside here =
    let at = at_place (is_byte c) octets k inside here in
    let same : at.here ≡ c = eqb-true at.here c at.passes in
    let behind : drop 1 (drop k octets) ≡ back = ap (drop 1) (sym rest_is) ∙ sym back_is in
    at.whole ∙ ap (λ t. t ++ at.here ∷ drop 1 (drop k octets)) (sym front_is) ∙ ap (λ d. front ++ d ∷ drop 1 (drop k octets)) same ∙ ap (λ t. front ++ c ∷ t) behind

pub around_last_at : (c : ℕ) (octets front rest back : List ℕ) (k : ℕ) → front ≡ take k octets → rest ≡ drop k octets → back ≡ drop 1 rest → k < length octets → Nowhere (Passes (is_byte c) octets) (k + 1) (length octets) → Passes (is_byte c) octets k → IsAroundLast c octets front back
around_last_at c octets front rest back k front_is rest_is back_is inside after here = record {
  whole = around c octets front rest back k front_is rest_is back_is inside here;
  none = subst (NoneOf (λ d. d ≡ c)) (ap (drop 1) (sym rest_is) ∙ sym back_is)
      (none_after (is_byte c) (λ d. d ≡ c) (equal_passes c) octets k inside (λ i low high is. after i (omega (arith, low)) high is));
}

pub around_first_at : (c : ℕ) (octets front rest back : List ℕ) (k : ℕ) → front ≡ take k octets → rest ≡ drop k octets → back ≡ drop 1 rest → k < length octets → Nowhere (Passes (is_byte c) octets) 0 k → Passes (is_byte c) octets k → IsAroundFirst c octets front back
around_first_at c octets front rest back k front_is rest_is back_is inside before here = record {
  whole = around c octets front rest back k front_is rest_is back_is inside here;
  none = subst (NoneOf (λ d. d ≡ c)) (sym front_is)
      (none_before (is_byte c) (λ d. d ≡ c) (equal_passes c) octets k inside (λ i high is. before i (omega arith) high is));
}

pub has_none : (c : ℕ) (octets : List ℕ) → Nowhere (Passes (is_byte c) octets) 0 (length octets) → HasNone c octets
has_none c octets none = none_anywhere (is_byte c) (λ d. d ≡ c) (equal_passes c) octets (λ i high is. none i (omega arith) high is)

-- ---- at the last blank or tab

abbrev pub IsSpace : ℕ → Type 0
IsSpace c = (c ≡ 32) ⊎ (c ≡ 9)

space_passes : (c : ℕ) → IsSpace c → is_byte2 32 9 c ≡ true
space_passes c (inl e) = ap (is_byte2 32 9) e
space_passes c (inr e) = ap (is_byte2 32 9) e

passes_space : (c : ℕ) → is_byte2 32 9 c ≡ true → IsSpace c
passes_space c is = elim (or_cases (c == 32) (c == 9) is) [ inl blank ↦ inl (eqb-true c 32 blank) | inr tab ↦ inr (eqb-true c 9 tab) ]

record EndsAt (octets : List ℕ) : Type 0 where
  pub front : List ℕ
  pub c : ℕ
  pub is : IsSpace c
  pub whole : octets ≡ front ++ c ∷ []

ends_at : (octets : List ℕ) (k : ℕ) → k < length octets → Passes (is_byte2 32 9) octets k → EndsAt (take (suc k) octets)
ends_at [] k inside here = absurd (omega (arith, inside))
ends_at (c ∷ octets) zero inside here = record { front = []; c = c; is = passes_space c here; whole = refl }
ends_at (c ∷ octets) (suc k) inside here =
    let rest = ends_at octets k (omega (arith, inside)) here in
    record { front = c ∷ rest.front; c = rest.c; is = rest.is; whole = ap (λ t. c ∷ t) rest.whole }

pub at_a_word : (octets : List ℕ) (k n : ℕ) → n ≡ suc k → k < length octets → Passes (is_byte2 32 9) octets k → IsAtAWord (take n octets)
at_a_word octets k n same inside here =
    let ends = ends_at octets k inside here in
    inr (ends.front, ends.c, ends.is, ap (λ m. take m octets) same ∙ ends.whole)

pub no_space_behind : (octets : List ℕ) (k n : ℕ) → n ≡ suc k → k < length octets → Nowhere (Passes (is_byte2 32 9) octets) (k + 1) (length octets) → HasNoSpace (drop n octets)
no_space_behind octets k n same inside after =
    subst (NoneOf IsSpace) (drop_one k octets ∙ ap (λ m. drop m octets) (sym same))
    (none_after (is_byte2 32 9) IsSpace space_passes octets k inside (λ i low high is. after i (omega (arith, low)) high is))

pub no_space_anywhere : (octets : List ℕ) → Nowhere (Passes (is_byte2 32 9) octets) 0 (length octets) → HasNoSpace octets
no_space_anywhere octets none = none_anywhere (is_byte2 32 9) IsSpace space_passes octets (λ i high is. none i (omega arith) high is)
