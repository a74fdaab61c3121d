-- How written octets are read from the left (RFC 1035 5.1).
use Rattle.std.specs.Prelude.{ℕ, zero, suc, List, [], ◌∷◌, length, Bool, ◌==◌, ◌&&◌, ◌||◌, nat_le, if◌then◌else◌, Option, Some, None}
use Rattle.zone_name.specs.Spelling.{Written, plain, escaped, decimal, octet_of, is_digit}

-- ---- the written octet that a text begins with, and the rest; none where an octet that means
-- something else or a backslash that begins no escape stands there

abbrev pub decimal_first : ℕ → ℕ → ℕ → List ℕ → Option (Written × List ℕ)
decimal_first x y z rest =
    if is_digit x && is_digit y && is_digit z && nat_le (octet_of (decimal x y z)) 255
    then Some (decimal x y z, rest) else None

-- after a backslash and a digit
abbrev pub digits_first : ℕ → List ℕ → Option (Written × List ℕ)
digits_first x [] = None
digits_first x (y ∷ []) = None
digits_first x (y ∷ z ∷ rest) = decimal_first x y z rest

-- after a backslash
abbrev pub escape_first : List ℕ → Option (Written × List ℕ)
escape_first [] = None
escape_first (x ∷ rest) =
    if is_digit x then digits_first x rest
    else (if x == 10 || x == 13 then None else Some (escaped x, rest))

abbrev pub unit_first : (ℕ → Bool) → List ℕ → Option (Written × List ℕ)
unit_first left_out [] = None
unit_first left_out (c ∷ rest) =
    if left_out c then None else (if c == 92 then escape_first rest else Some (plain c, rest))

-- ---- the written octets that a text begins with, as many as there are, and the rest

pub record Units : Type 0 where
  pub units : List Written
  pub rest : List ℕ

abbrev pub units_then : (List ℕ → Units) → List ℕ → Option (Written × List ℕ) → Units
units_then go_on octets None = record { units = []; rest = octets }
units_then go_on octets (Some (w, rest)) =
    let more : Units = go_on rest in record { units = w ∷ more.units; rest = more.rest }

-- at most n of them
unfoldable pub units_by : ℕ → (ℕ → Bool) → List ℕ → Units
units_by zero left_out octets = record { units = []; rest = octets }
units_by (suc n) left_out octets =
    units_then (units_by n left_out) octets (unit_first left_out octets)

unfoldable pub units_first : (ℕ → Bool) → List ℕ → Units
units_first left_out octets = units_by (length octets) left_out octets

-- ---- the octet that was read, and the rest

abbrev pub valued : Option (Written × List ℕ) → Option (ℕ × List ℕ)
valued None = None
valued (Some (w, rest)) = Some (octet_of w, rest)
