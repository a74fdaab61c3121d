-- Octets that spell themselves in a name.
use Rattle.std.specs.Prelude.{◌≡◌, ℕ, ◌≤◌, Bool, false, not, ◌&&◌, ◌||◌}
use Rattle.zone_name.specs.Spelling.{is_dot}
use Rattle.zone_name.specs.Text.{is_printed, is_special}

-- an octet that is printed, and takes no backslash
pub record IsShown (c : ℕ) : Type 0 where
  pub low : 33 ≤ c
  pub high : c ≤ 126
  pub plain : is_special c ≡ false

-- a dot, or an octet that spells itself
abbrev pub is_bare : ℕ → Bool
is_bare c = is_dot c || (not (is_special c) && is_printed c)

-- an octet that doesn't spell itself, as no dot does
abbrev pub is_odd : ℕ → Bool
is_odd c = is_special c || not (is_printed c)
