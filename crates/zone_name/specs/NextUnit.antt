-- The written octet that a text begins with (RFC 1035 5.1).
use Rattle.std.specs.Prelude.{◌≡◌, ℕ, List, []}
use Rattle.zone_name.specs.Spelling.{no_octet, BeginsWithUnit, IsBadEscape}
use Rattle.zone_name.specs.declared.escape.NextUnit.{NextUnit}
use Rattle.zone_name.specs.declared.escape.NextUnit.TheVariants.{End, Octet, BadEscape}

-- the text ends, begins with a written octet, or with a backslash that begins no escape
abbrev pub IsNextUnit : List ℕ → NextUnit → Type 0
IsNextUnit text End = text ≡ []
IsNextUnit text (Octet c rest) = BeginsWithUnit no_octet text c rest.now
IsNextUnit text BadEscape = IsBadEscape text
