-- Written octets at the beginning of a text: what is read is so, and what is so is read.
use Rattle.zone_name.proofs.Common.{AllByRecursion, BeginsWithEscape, BeginsWithUnit, Bool, IsBadEscape, IsEscape, IsUnit, List, None, Option, Some, Written, [], ap, append_assoc, arith, common_steps, cond_both, eqb-false, eqb-true, escaped, false, if◌then◌else◌, is_digit, le-leb, length, length-append, ne_eqb, no_octet, option_map, or_parts, plain, refl, suc, text_of, true, written_text, zero, ℕ, ◌++◌, ◌<◌, ◌==◌, ◌∷◌, ◌≡◌, ◌≢◌, ◌≤◌}
use Rattle.std.specs.Prelude.{IfSome}
use Rattle.zone_name.specs.Machine.Units.{digits_first, escape_first, unit_first, Units, units_then, units_by, units_first, valued}

-- no written octet stands at the beginning
pub data NoUnit (left_out : ℕ → Bool) (octets : List ℕ) : Type 0 where
  at_end : octets ≡ [] → NoUnit left_out octets
  at_octet : (c : ℕ) (rest : List ℕ) → octets ≡ c ∷ rest → left_out c ≡ true → NoUnit left_out octets
  at_backslash : IsBadEscape octets → NoUnit left_out octets

-- what the reading of a prefix says of the text
abbrev pub IsFirst : (ℕ → Bool) → List ℕ → Option (Written × List ℕ) → Type 0
IsFirst left_out octets None = NoUnit left_out octets
IsFirst left_out octets (Some (w, rest)) = IsUnit left_out w × (octets ≡ text_of w ++ rest)

-- ---- a backslash that begins no escape

-- an escape is a written octet wherever one may stand
pub unit_of_escape : (left_out : ℕ → Bool) (w : Written) → IsEscape w → IsUnit left_out w
unit_of_escape left_out w is = grind arith

escape_reads : (w : Written) (after rest : List ℕ) → IsEscape w → 92 ∷ rest ≡ text_of w ++ after → escape_first rest ≡ Some (w, after)
escape_reads w after rest is e = grind (arith, ne_eqb, le-leb)

-- ---- what is read at the beginning is so

-- what the reading of an escape says of the text from its backslash on
abbrev pub SaysEscape : List ℕ → Option (Written × List ℕ) → Type 0
SaysEscape text None = IsBadEscape text
SaysEscape text (Some (w, rest)) = IsEscape w × (text ≡ text_of w ++ rest)

-- each escape that is read is what the text's spelling says
pub escape_is : (rest : List ℕ) → SaysEscape (92 ∷ rest) (escape_first rest)
escape_is rest = grind (arith, cond_both, escape_reads, or_parts, eqb-false)

octet_is : (left_out : ℕ → Bool) (c : ℕ) (rest : List ℕ) → left_out c ≡ false → IsFirst left_out (c ∷ rest) (if c == 92 then escape_first rest else Some (plain c, rest))
octet_is left_out c rest goes_on = grind (arith, cond_both, ℕ, eqb-true, unit_of_escape, escape_is, eqb-false)

pub first_is : (left_out : ℕ → Bool) (octets : List ℕ) → IsFirst left_out octets (unit_first left_out octets)
first_is left_out [] = at_end refl
first_is left_out (c ∷ rest) =
    cond_both (left_out c) None (if c == 92 then escape_first rest else Some (plain c, rest)) (IsFirst left_out (c ∷ rest)) (λ e. at_octet c rest refl e) (octet_is left_out c rest)

-- ---- what is so is read

pub first_of_unit : (left_out : ℕ → Bool) (w : Written) (rest : List ℕ) → left_out 92 ≡ false → IsUnit left_out w → unit_first left_out (text_of w ++ rest) ≡ Some (w, rest)
first_of_unit left_out w rest backslash is = grind (arith, ne_eqb, le-leb)

pub first_of_none : (left_out : ℕ → Bool) (octets : List ℕ) → left_out 92 ≡ false → NoUnit left_out octets → unit_first left_out octets ≡ None
first_of_none left_out octets backslash none = grind (arith, first_is left_out octets)

-- ---- written octets as long as they come

pub record UnitsAre (left_out : ℕ → Bool) (octets : List ℕ) (found : Units) : Type 0 where
  pub whole : octets ≡ written_text found.units ++ found.rest
  pub each : AllByRecursion (IsUnit left_out) found.units
  pub none : NoUnit left_out found.rest

-- a written octet takes one octet of text or more
pub text_of-some : (w : Written) → 0 < length (text_of w)
text_of-some w = grind arith

units_by_first : (left_out : ℕ → Bool) (octets : List ℕ) (go_on : List ℕ → Units) (found : Option (Written × List ℕ)) → IsFirst left_out octets found → ((rest : List ℕ) → length rest < length octets → UnitsAre left_out rest (go_on rest)) → UnitsAre left_out octets (units_then go_on octets found)
units_by_first left_out octets go_on None is more = record { whole = refl; each = tt; none = is }
units_by_first left_out octets go_on (Some (w, rest)) is more = grind (arith, append_assoc, more rest (omega (arith, ap length is.1, length-append (text_of w) rest, text_of-some w)))

units_are : (n : ℕ) (left_out : ℕ → Bool) (octets : List ℕ) → length octets ≤ n → UnitsAre left_out octets (units_by n left_out octets)
unfolding units_by
units_are zero left_out octets enough = grind (arith, common_steps)
units_are (suc n) left_out octets enough = units_by_first left_out octets (units_by n left_out) (unit_first left_out octets) (first_is left_out octets) (λ rest less. units_are n left_out rest (omega arith))

units_only : (n : ℕ) (left_out : ℕ → Bool) (units : List Written) (rest : List ℕ) → left_out 92 ≡ false → length (written_text units ++ rest) ≤ n → AllByRecursion (IsUnit left_out) units → NoUnit left_out rest → units_by n left_out (written_text units ++ rest) ≡ record { units = units; rest = rest }
unfolding units_by
units_only zero left_out [] rest backslash enough each none = refl
units_only zero left_out (w ∷ units) rest backslash enough each none = grind (arith, length-append, text_of-some)
units_only (suc n) left_out [] rest backslash enough each none = grind (arith, first_of_none)
units_only (suc n) left_out (w ∷ units) rest backslash enough each none =
    let less : length (written_text units ++ rest) ≤ n = omega (arith, length-append (written_text (w ∷ units)) rest, length-append (text_of w) (written_text units), text_of-some w, length-append (written_text units) rest) in
    rw (append_assoc (text_of w) (written_text units) rest) (cc (first_of_unit left_out w (written_text units ++ rest) backslash each.0, units_only n left_out units rest backslash less each.1 none))

pub units_first_are : (left_out : ℕ → Bool) (octets : List ℕ) → UnitsAre left_out octets (units_first left_out octets)
unfolding units_first
units_first_are left_out octets = units_are (length octets) left_out octets (omega arith)

pub units_first_only : (left_out : ℕ → Bool) (octets : List ℕ) (units : List Written) (rest : List ℕ) → left_out 92 ≡ false → octets ≡ written_text units ++ rest → AllByRecursion (IsUnit left_out) units → NoUnit left_out rest → units_first left_out octets ≡ record { units = units; rest = rest }
unfolding units_first
units_first_only left_out octets units rest backslash e each none = cc (units_only (length (written_text units ++ rest)) left_out units rest backslash (omega arith) each none)

-- ---- what the code finds of an escape

pub valued_escape : {A : Type 0} (f : A → ℕ × List ℕ) (found : Option A) (x : ℕ) (rest text : List ℕ) → text ≡ x ∷ rest → is_digit x ≡ true → option_map f found ≡ valued (digits_first x rest) → IfSome found (λ a. BeginsWithEscape (92 ∷ text) (f a).0 (f a).1)
valued_escape f found x rest text e d h = grind arith

pub escaped_found : (x : ℕ) (rest text : List ℕ) → text ≡ x ∷ rest → is_digit x ≡ false → x ≢ 10 → x ≢ 13 → BeginsWithEscape (92 ∷ text) x rest
escaped_found x rest text e d n m = record { escape = escaped x; is_escape = (d, n, m); value = refl; parts = ap (λ t. 92 ∷ t) e }

-- ---- what the code finds at the beginning of a text

pub plain_found : (c : ℕ) (rest text : List ℕ) → text ≡ c ∷ rest → c ≢ 92 → BeginsWithUnit no_octet text c rest
plain_found c rest text e other = record { unit = plain c; is_unit = (refl, other); value = refl; parts = e }

pub ruleset escapes_found = (valued_escape, escaped_found)
