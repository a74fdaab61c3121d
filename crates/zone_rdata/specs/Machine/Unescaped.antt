-- Octets that are printed between quotes without an escape.
use Rattle.std.specs.Prelude.{ℕ, Bool, not, ◌==◌, ◌||◌}
use Rattle.zone_rdata.specs.Strings.{is_shown}

-- a quote, a backslash, or an octet that isn't printed as itself
abbrev pub is_escaped : ℕ → Bool
is_escaped c = c == 34 || c == 92 || not (is_shown c)

abbrev pub is_unescaped : ℕ → Bool
is_unescaped c = not (is_escaped c)
