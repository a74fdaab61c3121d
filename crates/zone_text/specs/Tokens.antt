-- A master file as a list of tokens (RFC 1035 5.1).
use Rattle.std.specs.Prelude.{◌≡◌, ◌≢◌, ℕ, zero, suc, ◌<◌, List, [], ◌∷◌, ◌++◌, length, ◌==◌, ◌||◌, Bool, true, Option, Some, None, ⊤}
use Rattle.std.specs.List.{flat_map, AllByRecursion}
use Rattle.zone_name.specs.Spelling.{Written, written_text, IsUnit}
use Rattle.zone_rdata.specs.Strings.{is_quote}

-- outside quotes space, tab and carriage return are blanks
abbrev pub is_blank : ℕ → Bool
is_blank c = c == 32 || c == 9 || c == 13

-- what ends a bare item where no backslash stands before it: a blank, a line feed, `"`, `(`, `)`
-- and `;`
abbrev pub ends_item : ℕ → Bool
ends_item c = is_blank c || c == 10 || c == 34 || c == 40 || c == 41 || c == 59

pub data Token : Type 0 where
  blank : ℕ → Token
  opening : Token
  closing : Token
  line_feed : Token
  comment : List ℕ → Token
  bare : List Written → Token
  quoted : List Written → Token

abbrev pub token_text : Token → List ℕ
token_text (blank c) = c ∷ []
token_text opening = 40 ∷ []
token_text closing = 41 ∷ []
token_text line_feed = 10 ∷ []
token_text (comment octets) = 59 ∷ octets
token_text (bare units) = written_text units
token_text (quoted units) = 34 ∷ written_text units ++ 34 ∷ []

abbrev pub text : List Token → List ℕ
text tokens = flat_map token_text tokens

abbrev pub IsToken : Token → Type 0
IsToken (blank c) = is_blank c ≡ true
IsToken opening = ⊤
IsToken closing = ⊤
IsToken line_feed = ⊤
IsToken (comment octets) = AllByRecursion (λ c. c ≢ 10) octets
IsToken (bare units) = (0 < length units) × AllByRecursion (IsUnit ends_item) units
IsToken (quoted units) = AllByRecursion (IsUnit is_quote) units

-- no bare item directly follows a bare item, and after a comment comes a line feed or the end of
-- the text
abbrev pub MayFollow : Token → Token → Type 0
MayFollow (bare units) (bare more) = ⊥
MayFollow (comment octets) line_feed = ⊤
MayFollow (comment octets) p = ⊥
MayFollow p q = ⊤

abbrev pub AllFollow : List Token → Type 0
AllFollow [] = ⊤
AllFollow (p ∷ []) = ⊤
AllFollow (p ∷ q ∷ tokens) = MayFollow p q × AllFollow (q ∷ tokens)

-- the depth of parentheses after tokens, where it never fell below zero
abbrev pub depth_after : ℕ → List Token → Option ℕ
depth_after depth [] = Some depth
depth_after depth (opening ∷ tokens) = depth_after (suc depth) tokens
depth_after zero (closing ∷ tokens) = None
depth_after (suc depth) (closing ∷ tokens) = depth_after depth tokens
depth_after depth (p ∷ tokens) = depth_after depth tokens

-- the text is cut into these tokens
pub record Cuts (octets : List ℕ) (tokens : List Token) : Type 0 where
  pub whole : octets ≡ text tokens
  pub each : AllByRecursion IsToken tokens
  pub follow : AllFollow tokens
  pub balanced : depth_after zero tokens ≡ Some zero

-- these are the octets' tokens, whether or not their parentheses are balanced
pub record AreTokensOf (octets : List ℕ) (tokens : List Token) : Type 0 where
  pub whole : octets ≡ text tokens
  pub each : AllByRecursion IsToken tokens
  pub follow : AllFollow tokens
