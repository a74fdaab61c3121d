-- Numbers and times in text (RFC 1035 5.1; the units are this project's choice).
use Rattle.std.specs.Prelude.{◌≡◌, ℕ, ◌+◌, ◌-◌, ◌*◌, ◌<◌, List, [], ◌∷◌, ◌++◌, length, min, true, ◌==◌, ◌||◌, if◌then◌else◌, Option, Some, None}
use Rattle.std.specs.List.{AllByRecursion, flat_map, sum_by}
use Rattle.std.specs.Prelude.{fold}
use Rattle.zone_name.specs.Spelling.{is_digit}

-- the number that decimal digits stand for
abbrev pub decimal_value : List ℕ → ℕ
decimal_value digits = fold (λ n c. n * 10 + (c - 48)) 0 digits

-- a number for which `Is` holds, or 2 ^ 32 in its place where it is greater
abbrev pub IsCapped : (ℕ → Type 0) → ℕ → Type 0
IsCapped Is n = (m : ℕ) × (Is m × (n ≡ min 4294967296 m))

-- one or more digits that stand for the number, leading zeros allowed
pub record IsDecimal (text : List ℕ) (n : ℕ) : Type 0 where
  pub some : 0 < length text
  pub digits : AllByRecursion (λ c. is_digit c ≡ true) text
  pub value : n ≡ decimal_value text

-- the seconds of a unit in any case: w, d, h, m, s
abbrev pub unit_seconds : ℕ → Option ℕ
unit_seconds c =
    if c == 119 || c == 87 then Some 604800
    else if c == 100 || c == 68 then Some 86400
    else if c == 104 || c == 72 then Some 3600
    else if c == 109 || c == 77 then Some 60
    else if c == 115 || c == 83 then Some 1
    else None

-- decimal digits and the unit after them
pub record Group : Type 0 where
  pub digits : List ℕ
  pub letter : ℕ
  pub unit : ℕ

pub record IsTimeGroup (g : Group) : Type 0 where
  pub some : 0 < length g.digits
  pub each : AllByRecursion (λ c. is_digit c ≡ true) g.digits
  pub lasts : unit_seconds g.letter ≡ Some g.unit

abbrev pub group_text : Group → List ℕ
group_text g = g.digits ++ g.letter ∷ []

abbrev pub group_seconds : Group → ℕ
group_seconds g = decimal_value g.digits * g.unit

-- a number of seconds, or one or more groups that are summed
pub data IsTime (text : List ℕ) (n : ℕ) : Type 0 where
  plain : IsDecimal text n → IsTime text n
  grouped : (groups : List Group) → 0 < length groups → AllByRecursion IsTimeGroup groups
      → text ≡ flat_map group_text groups → n ≡ sum_by group_seconds groups → IsTime text n
