-- The canonical spelling of a name (RFC 1035 5.1; which octets take a backslash is this project's
-- choice).
use Rattle.std.specs.Prelude.{ℕ, ◌+◌, ◌/◌, ◌%◌, List, [], ◌∷◌, ◌++◌, nat_le, ◌==◌, ◌&&◌, ◌||◌, Bool, if◌then◌else◌}
use Rattle.std.specs.List.{flat_map}
use Rattle.zone_name.specs.Common.{Labels}

-- the octets `"` `$` `(` `)` `.` `;` `@` `\`, which mean something else inside a master file
abbrev pub is_special : ℕ → Bool
is_special c = c == 34 || c == 36 || c == 40 || c == 41 || c == 46 || c == 59 || c == 64 || c == 92

-- the octets that print as themselves, `!` to `~`
abbrev pub is_printed : ℕ → Bool
is_printed c = nat_le 33 c && nat_le c 126

-- a backslash and the octet's value in three digits
abbrev pub decimal_escape : ℕ → List ℕ
decimal_escape c = 92 ∷ (48 + c / 100) ∷ (48 + c / 10 % 10) ∷ (48 + c % 10) ∷ []

abbrev pub octet_text : ℕ → List ℕ
octet_text c =
    if is_special c then 92 ∷ c ∷ [] else (if is_printed c then c ∷ [] else decimal_escape c)

-- a label's octets, and the dot after it
abbrev pub label_text : List ℕ → List ℕ
label_text label = flat_map octet_text label ++ 46 ∷ []

-- each label with its dot; the root is a dot alone
abbrev pub name_text : Labels → List ℕ
name_text [] = 46 ∷ []
name_text (label ∷ labels) = flat_map label_text (label ∷ labels)
