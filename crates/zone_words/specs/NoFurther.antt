-- Files without words of further types.
use Rattle.std.specs.Prelude.{ℕ, List, ⊤}
use Rattle.std.specs.List.{AllByRecursion}
use Rattle.zone_name.specs.Common.{NothingIs}
use Rattle.zone_name.specs.Spelling.{written_text}
use Rattle.zone_text.specs.Decided.{AreTokens}
use Rattle.zone_text.specs.Tokens.{Token, bare}
use Rattle.type_data.specs.Table.{IsFurtherWord}

-- the token is no bare item that is the word of a further type
abbrev pub IsNoFurtherWord : Token → Type 0
IsNoFurtherWord (bare units) = NothingIs (IsFurtherWord (written_text units))
IsNoFurtherWord p = ⊤

-- nor is one before what breaks the octets, if anything does
abbrev pub HasNoFurtherWord : List ℕ → Type 0
HasNoFurtherWord octets =
    (tokens : List Token) → AreTokens octets tokens → AllByRecursion IsNoFurtherWord tokens
