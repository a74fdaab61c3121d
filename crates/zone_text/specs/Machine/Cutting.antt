-- How a master file is cut from the left: what stands at its beginning, and what the rest makes of
-- it (RFC 1035 5.1).
use Rattle.std.specs.Prelude.{ℕ, zero, suc, ◌-◌, List, [], ◌∷◌, length, ◌==◌, if◌then◌else◌, Option, Some, None}
use Rattle.zone_name.specs.Spelling.{Written}
use Rattle.zone_name.specs.Machine.Units.{Units, units_first}
use Rattle.zone_rdata.specs.Strings.{is_quote}
use Rattle.zone_rdata.specs.declared.fault.Fault.{Fault}
use Rattle.zone_rdata.specs.declared.fault.Fault.TheVariants.{BadEscape, UnclosedQuote, UnbalancedParenthesis}
use Rattle.zone_text.specs.Tokens.{Token, blank, opening, closing, line_feed, comment, bare, quoted, is_blank, ends_item}

-- ---- a comment's octets, and the rest

unfoldable pub before_line_feed : List ℕ → List ℕ
before_line_feed [] = []
before_line_feed (c ∷ rest) = if c == 10 then [] else c ∷ before_line_feed rest

unfoldable pub from_line_feed : List ℕ → List ℕ
from_line_feed [] = []
from_line_feed (c ∷ rest) = if c == 10 then c ∷ rest else from_line_feed rest

-- ---- the first token of a text

-- what an octet is where no item, comment or quote is open
pub data Sign : Type 0 where
  a_blank : Sign
  a_line_feed : Sign
  an_opening : Sign
  a_closing : Sign
  a_semicolon : Sign
  a_quote : Sign
  of_item : Sign

abbrev pub sign_of : ℕ → Sign
sign_of c =
    if is_blank c then a_blank
    else if c == 10 then a_line_feed
    else if c == 34 then a_quote
    else if c == 40 then an_opening
    else if c == 41 then a_closing
    else if c == 59 then a_semicolon
    else of_item

-- a token and the rest, or the end: of a text that is cut, or with a fault
pub data Front : Type 0 where
  takes : Token → List ℕ → Front
  stops : Option Fault → Front

-- after the units of a quoted item
abbrev pub quoted_front : List Written → List ℕ → Front
quoted_front units [] = stops (Some UnclosedQuote)
quoted_front units (c ∷ rest) =
    if is_quote c then takes (quoted units) rest else stops (Some BadEscape)

-- after the units of a bare item
abbrev pub bare_front : List Written → List ℕ → Front
bare_front [] rest = stops (Some BadEscape)
bare_front (w ∷ units) rest = takes (bare (w ∷ units)) rest

-- at a depth of parentheses, by the first octet and the rest
abbrev pub front_by : ℕ → ℕ → List ℕ → Sign → Front
front_by depth c rest a_blank = takes (blank c) rest
front_by depth c rest a_line_feed = takes line_feed rest
front_by depth c rest an_opening = takes opening rest
front_by zero c rest a_closing = stops (Some UnbalancedParenthesis)
front_by (suc depth) c rest a_closing = takes closing rest
front_by depth c rest a_semicolon = takes (comment (before_line_feed rest)) (from_line_feed rest)
front_by depth c rest a_quote =
    let found : Units = units_first is_quote rest in quoted_front found.units found.rest
front_by depth c rest of_item =
    let found : Units = units_first ends_item (c ∷ rest) in bare_front found.units found.rest

-- where the text ends
abbrev pub end_front : ℕ → Front
end_front zero = stops None
end_front (suc depth) = stops (Some UnbalancedParenthesis)

unfoldable pub front_of : ℕ → List ℕ → Front
front_of depth [] = end_front depth
front_of depth (c ∷ rest) = front_by depth c rest (sign_of c)

-- ---- the whole text

-- the depth after a token
abbrev pub depth_past : ℕ → Token → ℕ
depth_past depth opening = suc depth
depth_past depth closing = depth - 1
depth_past depth p = depth

-- the tokens of a text, or of its beginning where it breaks, and the fault with which it breaks
pub record Cutting : Type 0 where
  pub tokens : List Token
  pub broken : Option Fault

abbrev pub cut_on : (ℕ → List ℕ → Cutting) → ℕ → Front → Cutting
cut_on go_on depth (stops fault) = record { tokens = []; broken = fault }
cut_on go_on depth (takes p rest) =
    let more : Cutting = go_on (depth_past depth p) rest in
    record { tokens = p ∷ more.tokens; broken = more.broken }

-- at most n tokens
unfoldable pub cut_by : ℕ → ℕ → List ℕ → Cutting
cut_by zero depth octets = record { tokens = []; broken = None }
cut_by (suc n) depth octets = cut_on (cut_by n) depth (front_of depth octets)

-- each token takes an octet or more, so one more than the octets is enough for all tokens and the
-- end
unfoldable pub cutting : List ℕ → Cutting
cutting octets = cut_by (suc (length octets)) zero octets
