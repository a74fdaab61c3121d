-- The lines that a `$GENERATE` entry stands for: for each value of its range the owner, the words
-- before the data, and the data.
use Rattle.std.specs.Prelude.{◌≡◌, ℕ, List, [], ◌∷◌, ◌++◌, ◌==◌, count_by, Option, Some, None, ◌⊎◌}
use Rattle.std.specs.Fmt.{◌++?◌}
use Rattle.zone_name.specs.Common.{NothingIs}
use Rattle.zone_text.specs.FirstEntry.{IsOneEntry}
use Rattle.zone_text.specs.Tokens.{Token}
use Rattle.zone_generate.specs.Template.{expanded}

-- the templates of an owner and of data, and what is between them as it is written
pub record Templates : Type 0 where
  pub owner : List ℕ
  pub middle : List ℕ
  pub rdata : List ℕ

-- what the templates say for a value, and a line feed
abbrev pub line_of : Templates → ℕ → Option (List ℕ)
line_of t value =
    expanded value t.owner ++? (Some (32 ∷ t.middle ++ 32 ∷ []) ++? (expanded value t.rdata ++? Some (10 ∷ [])))

-- octets are one entry of a master file (RFC 1035 5.1), with the line feed that ends it and no other
pub record IsOneLine (octets : List ℕ) : Type 0 where
  pub tokens : List Token
  pub one : IsOneEntry octets tokens
  pub feeds : count_by (λ c. c == 10) octets ≡ 1

-- the line for a value: what the templates say for it, where this is one entry of one line
pub record IsLineFor (t : Templates) (value : ℕ) (line : List ℕ) : Type 0 where
  pub said : line_of t value ≡ Some line
  pub one : IsOneLine line

-- for a value there is no line
abbrev pub SaysNothing : Templates → ℕ → Type 0
SaysNothing t value = NothingIs (IsLineFor t value)

-- the first of the values has a line, and after it comes what the others have
pub record BeginWithLine (t : Templates) (value : ℕ) (Rest : List ℕ → Type 0)
    (text : List ℕ) : Type 0 where
  pub line : List ℕ
  pub rest : List ℕ
  pub first : IsLineFor t value line
  pub others : Rest rest
  pub joined : text ≡ line ++ rest

-- The lines for values, in order: for all of them, or up to the first that has none, which is the
-- fault.
abbrev pub AreLines : Templates → List ℕ → List ℕ → Option ℕ → Type 0
AreLines t [] text fault = (text ≡ []) × (fault ≡ None)
AreLines t (value ∷ values) text fault =
    (SaysNothing t value × (text ≡ []) × (fault ≡ Some value))
    ⊎ BeginWithLine t value (λ rest. AreLines t values rest fault) text

-- what the template of the owner says for the last of the values
abbrev pub last_owner : Templates → List ℕ → Option (List ℕ)
last_owner t [] = None
last_owner t (value ∷ []) = expanded value t.owner
last_owner t (value ∷ next ∷ values) = last_owner t (next ∷ values)
