-- What was read of a time: the seconds of the groups so far, and the digits after the last of them.
use Rattle.std.specs.Prelude.{◌≡◌, ◌≤◌, ℕ, List, [], ◌∷◌, ◌++◌, min, true, Option, Some, None, IfSome}
use Rattle.std.specs.List.{AllByRecursion, flat_map, sum_by}
use Rattle.zone_name.specs.Spelling.{is_digit}
use Rattle.zone_rdata.specs.Number.{Group, IsTimeGroup, group_text, group_seconds, decimal_value}

-- the number of digits, if there are any, under the cap
abbrev pub number_of : List ℕ → Option ℕ
number_of [] = None
number_of (d ∷ digits) = Some (min 4294967296 (decimal_value (d ∷ digits)))

pub record ReadsTime (text : List ℕ) (total : ℕ) (number : Option ℕ) : Type 0 where
  pub groups : List Group
  pub digits : List ℕ
  pub parts : text ≡ flat_map group_text groups ++ digits
  pub each : AllByRecursion IsTimeGroup groups
  pub last : AllByRecursion (λ c. is_digit c ≡ true) digits
  pub summed : total ≡ min 4294967296 (sum_by group_seconds groups)
  pub stated : number ≡ number_of digits
  pub few : total ≤ 4294967296
  pub short : IfSome number (λ n. n ≤ 4294967296)
