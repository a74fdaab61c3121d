-- What holds of every canonical line, and what canonical lines state as a master file (RFC 1035
-- 5.1).
use Rattle.std.specs.Prelude.{◌≡◌, ◌≢◌, ℕ, zero, ◌+◌, List, [], ◌∷◌, ◌++◌}
use Rattle.std.specs.List.{AllByRecursion}
use Rattle.zone_rdata.specs.Record.{Record}
use Rattle.zone_rdata.specs.declared.record.Placed.{Placed}
use Rattle.zone_rdata.specs.declared.fault.Place.TheVariants.{Line}
use Rattle.zone_text.specs.Entries.{cut_from, entry_of}
use Rattle.zone_text.specs.Line.{StatesWhole}
use Rattle.zone_text.specs.Tokens.{Token, Cuts}
use Rattle.zone_print.specs.Canonical.{line}

-- octets without a line feed
abbrev pub HasNoFeed : List ℕ → Type 0
HasNoFeed octets = AllByRecursion (λ c. c ≢ 10) octets

-- octets with one line feed, the last of them
pub record EndsWithItsFeed (octets : List ℕ) : Type 0 where
  pub front : List ℕ
  pub split : octets ≡ front ++ 10 ∷ []
  pub others : HasNoFeed front

-- the line of a record has one line feed, its last octet
abbrev pub EachLineEnds : Type 0
EachLineEnds = (r : Record) → EndsWithItsFeed (line r)

-- The octets are one line of a master file for the record: they are cut into tokens, these are one
-- entry that a line feed ends, and it states every part of the record itself
pub record IsLineOf (r : Record) (octets : List ℕ) : Type 0 where
  pub tokens : List Token
  pub cut : Cuts octets tokens
  pub ended : cut_from zero tokens ≡ record { ended = tokens ∷ []; open_tokens = [] }
  pub states : StatesWhole (entry_of 1 tokens) r

-- records at lines one after another, the first at this one
abbrev pub placed_from : ℕ → List Record → List Placed
placed_from number [] = []
placed_from number (r ∷ records) =
    record { rr = r; place = Line number } ∷ placed_from (number + 1) records
