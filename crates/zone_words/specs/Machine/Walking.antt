-- Octets of tokens that stand between others.
use Rattle.std.specs.Prelude.{◌≡◌, ℕ, Bool, List, ◌∷◌, ◌++◌}
use Rattle.zone_text.specs.Tokens.{Token, is_blank, text, AreTokensOf}
use Rattle.zone_words.specs.Written.{Anew, written}

-- octets, and what is written in place of the type's word and the tokens of the octets after it,
-- come after others
abbrev pub WritesBetween : List ℕ → List ℕ → Anew → List ℕ → List ℕ → Type 0
WritesBetween before after it old new =
    (back : List Token) → AreTokensOf after back → new ≡ old ++ (before ++ text (written it back))

-- whether the first octet, if there is one, is a blank
abbrev pub BeginsBlank : List ℕ → Bool → Type 0
BeginsBlank octets is = (c : ℕ) (after : List ℕ) → octets ≡ c ∷ after → is ≡ is_blank c
