-- How many octets at the front take no escape between quotes.
use Rattle.zone_rdata.proofs.Common.{[], ◌≡◌, ◌∙◌, ℕ, ◌+◌, Bool, true, false, cond, List, ◌∷◌, ◌++◌, length, take, drop, refl, sym, ap, arith, inside_text, unit_text, flat_map-append, take-append-drop, append_assoc, append-nil, prefix_len, is_unescaped, first_fails, one_more, prefix_len-le-length}

itself : (c : ℕ) → is_unescaped c ≡ true → unit_text c ≡ c ∷ []
itself c e = grind arith

-- octets that take no escape are printed as themselves
pub themselves : (octets : List ℕ)
    → inside_text (take (prefix_len is_unescaped octets) octets) ≡ take (prefix_len is_unescaped octets) octets
themselves [] = refl
themselves (c ∷ octets) = by (is_unescaped c) refl (themselves octets)
  where
    by : (b : Bool) → is_unescaped c ≡ b
        → inside_text (take (prefix_len is_unescaped octets) octets) ≡ take (prefix_len is_unescaped octets) octets
        → inside_text (take (cond b (1 + prefix_len is_unescaped octets) 0) (c ∷ octets))
        ≡ take (cond b (1 + prefix_len is_unescaped octets) 0) (c ∷ octets)
    by true e rest = grind (arith, itself c e, rest)
    by false e rest = refl

-- octets up to a place are printed
pub record HaveShown (whole rest text : List ℕ) : Type 0 where
  pub left : inside_text whole ≡ text ++ inside_text rest

-- those that take no escape, and the rest
in_parts : (rest plain after : List ℕ) (n : ℕ) → n ≡ prefix_len is_unescaped rest → plain ≡ take n rest
    → after ≡ drop n rest → inside_text rest ≡ plain ++ inside_text after
in_parts rest plain after n len front back =
    rw (front, back, len) (ap inside_text (sym (take-append-drop (prefix_len is_unescaped rest) rest))
    ∙ flat_map-append unit_text (take (prefix_len is_unescaped rest) rest) (drop (prefix_len is_unescaped rest) rest)
    ∙ ap (λ t. t ++ inside_text (drop (prefix_len is_unescaped rest) rest)) (themselves rest))

pub shown_more : (whole rest text plain after following : List ℕ) (n c : ℕ)
    → n ≡ prefix_len is_unescaped rest → plain ≡ take n rest → after ≡ drop n rest
    → after ≡ c ∷ following → HaveShown whole rest text
    → HaveShown whole following (text ++ (plain ++ unit_text c))
shown_more whole rest text plain after following n c len front back first shown = grind (arith, in_parts, append_assoc)

pub shown_all : (whole rest text plain after : List ℕ) (n : ℕ)
    → n ≡ prefix_len is_unescaped rest → plain ≡ take n rest → after ≡ drop n rest → length after ≡ 0
    → HaveShown whole rest text → text ++ plain ≡ inside_text whole
shown_all whole rest text plain [] n len front back none shown =
    cc (shown.left, in_parts rest plain [] n len front back, append-nil plain)
shown_all whole rest text plain (c ∷ after) n len front back none shown = absurd (omega (arith, none))

pub ruleset runs_of_few = (first_fails, one_more, prefix_len-le-length)
