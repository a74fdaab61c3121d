-- How the tokens of an entry are written anew, with the type and the data in the generic form (RFC
-- 3597 5).
use Rattle.std.specs.Prelude.{ℕ, List, [], ◌∷◌, ◌++◌, length, map, filter, codes, decimal, Bool, true, false}
use Rattle.hex.specs.Hex.{encode_lower}
use Rattle.zone_name.specs.Spelling.{plain, escaped}
use Rattle.zone_text.specs.Tokens.{Token, blank, bare, quoted}

-- a bare item of octets that stand for themselves
abbrev pub word : List ℕ → Token
word octets = bare (map plain octets)

abbrev pub type_token : ℕ → Token
type_token number = word (codes "TYPE" ++ decimal number)

abbrev pub digit_tokens : List ℕ → List Token
digit_tokens [] = []
digit_tokens (c ∷ octets) = blank 32 ∷ word (encode_lower (c ∷ octets)) ∷ []

-- `TYPE` and the number, and octets in the generic form, parted by single spaces
abbrev pub generic_tokens : ℕ → List ℕ → List Token
generic_tokens number octets =
    type_token number ∷ blank 32 ∷ bare (escaped 35 ∷ []) ∷ blank 32
    ∷ word (decimal (length octets)) ∷ digit_tokens octets

-- a parenthesis, a comment or a line feed
abbrev pub stays : Token → Bool
stays (blank c) = false
stays (bare units) = false
stays (quoted units) = false
stays p = true

-- what an entry of a further type says: its type where the data is in the generic form, or the type
-- and the octets that words state
pub data Anew : Type 0 where
  renamed : ℕ → Anew
  in_octets : ℕ → List ℕ → Anew

-- it in place of the type's token and the tokens after it
abbrev pub written : Anew → List Token → List Token
written (renamed number) back = type_token number ∷ back
written (in_octets number octets) back = generic_tokens number octets ++ filter stays back
