-- Texts whose escapes are undone (RFC 1035 5.1).
use Rattle.std.specs.Prelude.{◌≡◌, ◌++◌, ℕ, List}
use Rattle.std.specs.List.{AllByRecursion}
use Rattle.zone_name.specs.Spelling.{IsBadEscape, IsUnit, Written, no_octet, written_octets, written_text}

-- the octets that a text is written for, by themselves or by escapes
pub record Unescaped (text octets : List ℕ) : Type 0 where
  pub units : List Written
  pub each : AllByRecursion (IsUnit no_octet) units
  pub parts : text ≡ written_text units
  pub value : octets ≡ written_octets units

-- after written octets stands a backslash that begins no escape
pub record ComesToBadEscape (text : List ℕ) : Type 0 where
  pub units : List Written
  pub each : AllByRecursion (IsUnit no_octet) units
  pub rest : List ℕ
  pub parts : text ≡ written_text units ++ rest
  pub bad : IsBadEscape rest
