-- The entries of a master file (RFC 1035 5.1): its tokens, cut after each line feed outside
-- parentheses.
use Rattle.std.specs.Prelude.{ℕ, zero, suc, ◌+◌, List, [], ◌∷◌, ◌++◌, ◌==◌, count_by, slice_get, Option}
use Rattle.std.specs.List.{flat_map}
use Rattle.zone_rdata.specs.Spelling.{RawItem}
use Rattle.zone_rdata.specs.Spelling as raw
use Rattle.zone_name.specs.Spelling.{written_text}
use Rattle.zone_text.specs.Tokens.{Token, opening, closing, line_feed, bare, quoted, text}

-- tokens cut into entries: those that a line feed outside parentheses ends, and the tokens after
-- the last of them
pub record Cut : Type 0 where
  pub ended : List (List Token)
  pub open_tokens : List Token

-- a token before the first entry
abbrev pub in_front : Token → List (List Token) → List Token → Cut
in_front p [] open_tokens = record { ended = []; open_tokens = p ∷ open_tokens }
in_front p (entry ∷ ended) open_tokens =
    record { ended = (p ∷ entry) ∷ ended; open_tokens = open_tokens }

abbrev pub in_front_of : Token → Cut → Cut
in_front_of p rest = in_front p rest.ended rest.open_tokens

-- the entries of tokens, from a depth on: a line feed outside parentheses ends one
abbrev pub cut_from : ℕ → List Token → Cut
cut_from depth [] = record { ended = []; open_tokens = [] }
cut_from zero (line_feed ∷ tokens) =
    let rest = cut_from zero tokens in record rest { ended = (line_feed ∷ []) ∷ rest.ended }
cut_from depth (opening ∷ tokens) = in_front_of opening (cut_from (suc depth) tokens)
cut_from zero (closing ∷ tokens) = in_front_of closing (cut_from zero tokens)
cut_from (suc depth) (closing ∷ tokens) = in_front_of closing (cut_from depth tokens)
cut_from depth (p ∷ tokens) = in_front_of p (cut_from depth tokens)

-- the input's end ends the last entry too
abbrev pub and_last : List (List Token) → List Token → List (List Token)
and_last ended [] = ended
and_last ended (p ∷ tokens) = ended ++ (p ∷ tokens) ∷ []

-- an entry: its line, the first octet of its text, and its items as they stand in the file
pub record Entry : Type 0 where
  pub line : ℕ
  pub first : Option ℕ
  pub items : List RawItem

abbrev pub item_of : Token → List RawItem
item_of (bare units) = raw.bare (written_text units) ∷ []
item_of (quoted units) = raw.quoted (written_text units) ∷ []
item_of p = []

abbrev pub entry_of : ℕ → List Token → Entry
entry_of line tokens =
    record { line = line; first = slice_get (text tokens) 0; items = flat_map item_of tokens }

-- an entry's line is 1 and the line feeds before its first octet
abbrev pub numbered : ℕ → List (List Token) → List Entry
numbered line [] = []
numbered line (tokens ∷ entries) =
    entry_of line tokens ∷ numbered (line + count_by (λ c. c == 10) (text tokens)) entries

-- the entries of tokens that are a whole text
abbrev pub entries_of : List Token → List Entry
entries_of tokens =
    let cut = cut_from zero tokens in numbered 1 (and_last cut.ended cut.open_tokens)

-- the entries that a line feed has ended
abbrev pub ended_entries : List Token → List Entry
ended_entries tokens = numbered 1 (cut_from zero tokens).ended

-- the line of the entry that is open after them
abbrev pub open_line : List Token → ℕ
open_line tokens = 1 + count_by (λ c. c == 10) (flat_map text (cut_from zero tokens).ended)
