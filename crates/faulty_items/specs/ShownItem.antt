-- An item at fault as a line shows it (this project's own).
use Rattle.std.specs.Prelude.{ℕ, List, ◌++◌, codes, take, ◌==◌, ◌&&◌, ◌||◌, nat_le, Bool, not, if◌then◌else◌, [], ◌∷◌}
use Rattle.std.specs.List.{flat_map}
use Rattle.zone_name.specs.Text.{decimal_escape}

-- an octet that stands for itself: a space to `~`, but no quote and no backslash
abbrev pub is_plain : ℕ → Bool
is_plain c = nat_le 32 c && nat_le c 126 && not (c == 34 || c == 92)

abbrev pub shown_octet : ℕ → List ℕ
shown_octet c = if is_plain c then c ∷ [] else decimal_escape c

-- how many octets of an item are shown
abbrev pub most_shown : ℕ
most_shown = 60

-- `: "1.2.3.4.5"`
abbrev pub shown_item : List ℕ → List ℕ
shown_item octets = codes ": \"" ++ flat_map shown_octet (take most_shown octets) ++ codes "\""
