-- Tokens of texts on which cuts and breaks are computed (RFC 1035 5.1).
use Rattle.std.specs.Prelude.{ℕ, List, map}
use Rattle.zone_name.specs.Spelling.{plain}
use Rattle.zone_text.specs.Tokens.{Token, blank, bare, quoted}

-- a bare item in which each octet stands for itself
abbrev pub item : List ℕ → Token
item octets = bare (map plain octets)

-- a quoted item in which each octet stands for itself
abbrev pub string : List ℕ → Token
string octets = quoted (map plain octets)

abbrev pub space : Token
space = blank 32
