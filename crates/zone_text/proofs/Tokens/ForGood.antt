-- A break stays or stands at the end of the text, and not both. So does a backslash that begins no
-- escape, by what follows it.
use Rattle.std.proofs.Math.Logic.{⊎_elim, ⊎_map}
use Rattle.zone_text.proofs.Common.{AllByRecursion, Breaks, BreaksAtEnd, BreaksForGood, Fault, IsBadEscape, IsBroken, IsCutOff, IsEscape, IsLostEscape, IsUnit, List, NoUnit, StaysBroken, Token, Written, [], after_backslash, after_digit, after_two_digits, append-nil, append_cancel_left, arith, at_backslash, at_end, at_line_end, cases_Bool, cases_eq, cases_lt, closes_nothing, closing_stays, decimal, escape_open, escape_stays, escaped, false, inl, inr, is_digit, is_quote, no_escape, no_quote, no_quoted_escape, not_closed, nothing_left, octet_of, one_digit, quote_open, quoted_escape_open, quoted_escape_stays, refl, rules, subst, sym, text, text_of, too_great, true, two_digits, units_first_only, written_text, ℕ, ◌++◌, ◌∙◌, ◌∷◌, ◌≡◌, ◌⊎◌}
use Rattle.zone_text.proofs.Tokens.Lasting.{stays_some}

-- what is malformed is lost or cut off
abbrev Malformed : List ℕ → Type 0
Malformed rest = IsLostEscape rest ⊎ IsCutOff rest

-- no written octet stands at the beginning
abbrev NoneWritten : List ℕ → Type 0
NoneWritten rest = (w : Written) (after : List ℕ) → IsEscape w → rest ≡ text_of w ++ after → ⊥

three_digits : (x y z : ℕ) (more : List ℕ) → is_digit x ≡ true → is_digit y ≡ true → is_digit z ≡ true → NoneWritten (92 ∷ x ∷ y ∷ z ∷ more) → Malformed (92 ∷ x ∷ y ∷ z ∷ more)
three_digits x y z more dx dy dz none = ⊎_elim (λ great. inl (too_great x y z more refl dx dy dz great)) (λ few. absurd (none (decimal x y z) more (dx, dy, dz, few) refl)) (cases_lt 255 (octet_of (decimal x y z)))

after_two : (x y : ℕ) (more : List ℕ) → is_digit x ≡ true → is_digit y ≡ true → NoneWritten (92 ∷ x ∷ y ∷ more) → Malformed (92 ∷ x ∷ y ∷ more)
after_two x y [] dx dy none = inr (after_two_digits x y refl dx dy)
after_two x y (z ∷ more) dx dy none = ⊎_elim (λ dz. three_digits x y z more dx dy dz none) (λ nz. inl (two_digits x y z more refl dx dy nz)) (cases_Bool (is_digit z))

after_one : (x : ℕ) (more : List ℕ) → is_digit x ≡ true → NoneWritten (92 ∷ x ∷ more) → Malformed (92 ∷ x ∷ more)
after_one x [] dx none = inr (after_digit x refl dx)
after_one x (y ∷ more) dx none = ⊎_elim (λ dy. after_two x y more dx dy none) (λ ny. inl (one_digit x y more refl dx ny)) (cases_Bool (is_digit y))

after_other : (x : ℕ) (more : List ℕ) → is_digit x ≡ false → NoneWritten (92 ∷ x ∷ more) → Malformed (92 ∷ x ∷ more)
after_other x more nx none =
    ⊎_elim (λ feed. inl (at_line_end x more refl (inl feed)))
    (λ no_feed. ⊎_elim (λ return. inl (at_line_end x more refl (inr return))) (λ no_return. absurd (none (escaped x) more (nx, no_feed, no_return) refl)) (cases_eq x 13))
    (cases_eq x 10)

malformed_after : (more : List ℕ) → NoneWritten (92 ∷ more) → Malformed (92 ∷ more)
malformed_after [] none = inr (after_backslash refl)
malformed_after (x ∷ more) none = ⊎_elim (λ dx. after_one x more dx none) (λ nx. after_other x more nx none) (cases_Bool (is_digit x))

pub bad_is_malformed : (rest : List ℕ) → IsBadEscape rest → IsLostEscape rest ⊎ IsCutOff rest
bad_is_malformed rest bad = subst Malformed (sym bad.1) (malformed_after bad.0 (λ w after written e. bad.2 w after written (bad.1 ∙ e)))

pub malformed_is_bad : (rest : List ℕ) → IsLostEscape rest ⊎ IsCutOff rest → IsBadEscape rest
malformed_is_bad rest h = search rules

-- a break stays, or stands at the end
abbrev StaysOrEnds : List ℕ → Type 0
StaysOrEnds rest = StaysBroken rest ⊎ BreaksAtEnd rest

stays_or_ends : (depth : ℕ) (rest : List ℕ) (fault : Fault) → IsBroken depth rest fault → StaysOrEnds rest
stays_or_ends depth rest fault (closes_nothing after zero_is whole) = inl (closing_stays after whole)
stays_or_ends depth rest fault (no_escape bad) = ⊎_map (λ lost. escape_stays lost) (λ cut. escape_open cut) (bad_is_malformed rest bad)
stays_or_ends depth rest fault (no_quoted_escape units after each whole bad) = ⊎_map (λ lost. quoted_escape_stays units after each whole lost) (λ cut. quoted_escape_open units after each whole cut) (bad_is_malformed after bad)
stays_or_ends depth rest fault (no_quote units each whole) = inr (quote_open units each whole)
stays_or_ends depth rest fault (not_closed some whole) = inr (nothing_left whole)

pub break_stays_or_ends : (octets : List ℕ) (tokens : List Token) (fault : Fault) (broken : Breaks octets tokens fault) → StaysBroken broken.rest ⊎ BreaksAtEnd broken.rest
break_stays_or_ends octets tokens fault broken = search (rules, stays_or_ends)

-- what follows the quoted units of a text is one thing
after_units : (units other : List Written) (after rest : List ℕ) → AllByRecursion (IsUnit is_quote) units → AllByRecursion (IsUnit is_quote) other → NoUnit is_quote after → NoUnit is_quote rest → written_text units ++ after ≡ written_text other ++ rest → after ≡ rest
after_units units other after rest each another none no_more e = grind (arith, units_first_only is_quote (written_text units ++ after) units after refl refl each none, units_first_only is_quote (written_text units ++ after) other rest refl e another no_more)

-- an escape that further octets can't mend isn't cut off
lost_not_cut : (rest : List ℕ) → IsLostEscape rest → IsCutOff rest → ⊥
lost_not_cut rest lost cut = search rules

pub stays_or_ends_alone : (rest : List ℕ) → StaysBroken rest → BreaksAtEnd rest → ⊥
stays_or_ends_alone rest stays (nothing_left none) = stays_some rest stays none
stays_or_ends_alone rest (closing_stays after e) (quote_open units each f) = search rules
stays_or_ends_alone rest (escape_stays lost) (quote_open units each f) = search rules
stays_or_ends_alone rest (quoted_escape_stays other after another e lost) (quote_open units each f) = search (rules, append-nil (written_text units), after_units, at_end, stays_some, at_backslash, malformed_is_bad)
stays_or_ends_alone rest stays (escape_open cut) = grind arith
stays_or_ends_alone rest stays (quoted_escape_open units more each f cut) = search (rules, after_units, at_backslash, malformed_is_bad, lost_not_cut)

-- ---- a break of a text whose rest after its tokens is known

rest_is : (octets : List ℕ) (tokens : List Token) (fault : Fault) (breaks : Breaks octets tokens fault) (rest : List ℕ) → octets ≡ text tokens ++ rest → rest ≡ breaks.rest
rest_is octets tokens fault breaks rest e = search (rules, append_cancel_left)

pub stays_for_good : (octets : List ℕ) (tokens : List Token) (fault : Fault) → Breaks octets tokens fault → (rest : List ℕ) → octets ≡ text tokens ++ rest → StaysBroken rest → BreaksForGood octets tokens fault
stays_for_good octets tokens fault breaks rest e stays = record { breaks = breaks; stays = subst StaysBroken (rest_is octets tokens fault breaks rest e) stays }

pub ends_not_for_good : (octets : List ℕ) (tokens : List Token) (rest : List ℕ) → octets ≡ text tokens ++ rest → BreaksAtEnd rest → (fault : Fault) → BreaksForGood octets tokens fault → ⊥
ends_not_for_good octets tokens rest e ends fault good = stays_or_ends_alone rest (subst StaysBroken (sym (rest_is octets tokens fault good.breaks rest e)) good.stays) ends
