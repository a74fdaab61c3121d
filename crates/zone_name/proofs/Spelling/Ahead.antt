-- What is ahead in a text, in the words of its spelling.
use Rattle.zone_name.proofs.Common.{Ahead, BeginsWithUnit, Bool, IsBadEscape, IsUnit, List, Option, Written, [], ahead_in, ap, ap₂, arith, bytes_decides, drop, sym, true, take-append-drop, ◌∙◌, at_dot, at_end, at_fault, at_octet, both_ways, cases_Bool, common_steps, cond_both, eqb-true, false, is_dot, length, nat_eq, no_octet, octet_of, pointwise, refl, take, text_of, unit_ahead, ℕ, ◌++◌, ◌<◌, ◌∷◌, ◌≡◌}
use Rattle.zone_name.proofs.Spelling.Units.{IsFirst, first_is}
use Rattle.std.proofs.Common.{Bor}
use Rattle.zone_name.specs.NextUnit.{IsNextUnit}
use Rattle.zone_name.specs.declared.escape.NextUnit.{NextUnit}
use Rattle.zone_name.specs.declared.escape.NextUnit.TheVariants.{BadEscape, End, Octet}

-- what is ahead, said of the text there
abbrev pub IsAhead : List ℕ → Ahead → Type 0
IsAhead rest at_end = rest ≡ []
IsAhead rest (at_dot after) = rest ≡ 46 ∷ after
IsAhead rest (at_octet c after) = BeginsWithUnit is_dot rest c after
IsAhead rest at_fault = IsBadEscape rest

-- where a text goes on with no dot, a written octet or a bad escape is ahead
unit_is : (c : ℕ) (rest : List ℕ) (found : Option (Written × List ℕ)) → is_dot c ≡ false → IsFirst is_dot (c ∷ rest) found → IsAhead (c ∷ rest) (unit_ahead found)
unit_is c rest found other is = grind (arith, both_ways)

-- what is ahead is what the text's spelling says
pub ahead_is : (rest : List ℕ) → IsAhead rest (ahead_in rest)
ahead_is rest = grind (arith, common_steps, cond_both, eqb-true, unit_is, first_is)

-- what follows it is shorter
abbrev pub Shrinks : List ℕ → Ahead → Type 0
Shrinks rest (at_dot after) = length after < length rest
Shrinks rest (at_octet c after) = length after < length rest
Shrinks rest ahead = Unit {0}

pub ahead_shrinks : (rest : List ℕ) → Shrinks rest (ahead_in rest)
ahead_shrinks rest = grind (arith, ahead_is rest)

-- the way back: what is ahead where a written octet stands
pub ahead-unit : (w : Written) (rest : List ℕ) → IsUnit is_dot w → ahead_in (text_of w ++ rest) ≡ at_octet (octet_of w) rest
ahead-unit w rest is = grind arith

-- a backslash that begins no escape is a fault ahead
pub ahead-bad : (rest : List ℕ) → IsBadEscape rest → ahead_in rest ≡ at_fault
ahead-bad rest bad = grind (arith, ahead_is rest)

-- ---- what the code finds

-- the test of a dot at the beginning
abbrev pub has_dot : List ℕ → Bool
has_dot rest = pointwise nat_eq (take 1 rest) (46 ∷ [])

pub dot_seen : (rest after : List ℕ) → has_dot rest ≡ true → after ≡ drop 1 rest → rest ≡ 46 ∷ after
dot_seen rest after dot is = sym (take-append-drop 1 rest) ∙ ap₂ (λ (s t : List ℕ). s ++ t) ((bytes_decides (take 1 rest) (46 ∷ [])).0 dot) (sym is)

pub unit_seen : (rest after : List ℕ) (c : ℕ) → has_dot rest ≡ false → BeginsWithUnit no_octet rest c after → at_octet c after ≡ ahead_in rest
unit_seen rest after c other begins = grind (arith, cases_Bool, both_ways, eqb-true, ahead-unit)

-- no written octet, though the text goes on
pub none_seen : (rest : List ℕ) (unit : NextUnit) → IsNextUnit rest unit → 0 < length rest → ((c : ℕ) (after : Bor (List ℕ)) → unit ≡ Octet c after → ⊥) → IsBadEscape rest
none_seen rest End is some other = absurd (omega (arith, some, ap length is))
none_seen rest (Octet c after) is some other = absurd (other c after refl)
none_seen rest BadEscape is some other = is
