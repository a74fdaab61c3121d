-- How a text that isn't cut into tokens breaks (RFC 1035 5.1).
use Rattle.std.specs.Prelude.{◌≡◌, ℕ, zero, ◌<◌, List, [], ◌∷◌, ◌++◌, Some, ⊤}
use Rattle.std.specs.List.{AllByRecursion}
use Rattle.zone_name.specs.Spelling.{Written, IsBadEscape, written_text, IsUnit}
use Rattle.zone_rdata.specs.declared.fault.Fault.{Fault}
use Rattle.zone_rdata.specs.declared.fault.Fault.TheVariants.{BadEscape, UnclosedQuote, UnbalancedParenthesis}
use Rattle.zone_rdata.specs.Strings.{is_quote}
use Rattle.zone_text.specs.Tokens.{Token, comment, text, IsToken, AllFollow, depth_after}

-- What stands where a text breaks, at a depth of parentheses, up to the end of the text: a `)` that
-- closes nothing; a backslash that begins no escape, outside quotes or after an opening quote and
-- quoted units; an opening quote and quoted units alone; nothing, where a parenthesis is open. A
-- broken bare item begins at its backslash, a broken quoted item at its opening quote.
pub data IsBroken (depth : ℕ) (rest : List ℕ) : Fault → Type 0 where
  closes_nothing : (after : List ℕ) → depth ≡ 0 → rest ≡ 41 ∷ after
      → IsBroken depth rest UnbalancedParenthesis
  no_escape : IsBadEscape rest → IsBroken depth rest BadEscape
  no_quoted_escape : (units : List Written) (after : List ℕ)
      → AllByRecursion (IsUnit is_quote) units → rest ≡ 34 ∷ written_text units ++ after
      → IsBadEscape after → IsBroken depth rest BadEscape
  no_quote : (units : List Written) → AllByRecursion (IsUnit is_quote) units
      → rest ≡ 34 ∷ written_text units → IsBroken depth rest UnclosedQuote
  not_closed : 0 < depth → rest ≡ [] → IsBroken depth rest UnbalancedParenthesis

-- a comment ends at a line feed or where the text does
abbrev pub MayEndBefore : List Token → List ℕ → Type 0
MayEndBefore [] rest = ⊤
MayEndBefore (comment octets ∷ []) rest = rest ≡ []
MayEndBefore (p ∷ tokens) rest = MayEndBefore tokens rest

-- The text breaks after these tokens: they are the tokens of its beginning, and after them, at
-- their depth, stands what breaks it.
pub record Breaks (octets : List ℕ) (tokens : List Token) (fault : Fault) : Type 0 where
  pub rest : List ℕ
  pub depth : ℕ
  pub whole : octets ≡ text tokens ++ rest
  pub each : AllByRecursion IsToken tokens
  pub follow : AllFollow tokens
  pub last : MayEndBefore tokens rest
  pub parentheses : depth_after zero tokens ≡ Some depth
  pub broken : IsBroken depth rest fault
