-- The last line of a rewriting that isn't whole (this project's own).
use Rattle.std.specs.Prelude.{Bool, false, not, if◌then◌else◌, ℕ, ◌==◌, List, [], ◌∷◌, ◌++◌, codes}

-- whether a text ends inside a line, where before these octets it did or not
abbrev pub inside_after : Bool → List ℕ → Bool
inside_after inside [] = inside
inside_after inside (octet ∷ text) = inside_after (not (octet == 10)) text

-- whether a text ends inside a line: its last octet is no line feed
abbrev pub ends_inside : List ℕ → Bool
ends_inside text = inside_after false text

-- A directive that no reader of master files knows (RFC 1035 5.1). Where the text before it ends
-- inside a line, as one that broke may, a line feed goes before it, so that it is a line of its own.
abbrev pub stopped_line : List ℕ → List ℕ
stopped_line text = (if ends_inside text then 10 ∷ [] else []) ++ (codes "$STOPPED" ++ 10 ∷ [])
