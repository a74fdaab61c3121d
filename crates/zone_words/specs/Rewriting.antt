-- A master file and its rewriting, entry by entry (RFC 1035 5.1). What becomes of an entry is an
-- argument here: `Entry` says it for the further types.
use Rattle.std.specs.Prelude.{◌≡◌, ℕ, zero, ◌+◌, List, [], ◌∷◌, ◌++◌, count_by, ◌==◌, ⊤}
use Rattle.std.specs.List.{flat_map}
use Rattle.zone_rdata.specs.declared.fault.Fault.{Fault}
use Rattle.zone_text.specs.Breaks.{Breaks}
use Rattle.zone_text.specs.Entries.{Entry, and_last, cut_from, entry_of}
use Rattle.zone_text.specs.FirstEntry.{IsBrokenOff, IsOpen}
use Rattle.zone_text.specs.Tokens.{Token, text, Cuts}
use Rattle.type_data.specs.declared.fault.WordsFault.{WordsFault}

-- an entry of a further type that states no data: its line, the mnemonic of its type, the field by
-- its name in the RFC, and what is wrong
pub record Refused : Type 0 where
  pub line : ℕ
  pub mnemonic : List ℕ
  pub field : List ℕ
  pub fault : WordsFault

-- what becomes of an entry: the tokens that are written, and what is told of it
pub record Outcome : Type 0 where
  pub written : List Token
  pub told : List Refused

-- what becomes of an entry after others, the latest first: its line, its tokens and its outcome
abbrev pub Becomes : Type 1
Becomes = List Entry → ℕ → List Token → Outcome → Type 0

-- entry for entry, from a line on
abbrev pub EachBecomes : Becomes → List Entry → ℕ → List (List Token) → List Outcome → Type 0
EachBecomes Is before line [] [] = ⊤
EachBecomes Is before line (tokens ∷ entries) (outcome ∷ outcomes) =
    Is before line tokens outcome
    × EachBecomes Is (entry_of line tokens ∷ before)
    (line + count_by (λ c. c == 10) (text tokens)) entries outcomes
EachBecomes Is before line entries outcomes = ⊥

-- the octets that are written for entries, and what is told of them
abbrev pub written_of : List Outcome → List ℕ
written_of outcomes = flat_map (λ (o : Outcome). text o.written) outcomes

abbrev pub told_of : List Outcome → List Refused
told_of outcomes = flat_map (λ (o : Outcome). o.told) outcomes

-- The file, what is written for it, and what is told of it: its entries, one by one. A text that
-- breaks stays as it is from the entry on that is open there.
pub data IsRewritten (Is : Becomes) (octets new : List ℕ) (told : List Refused) : Type 0 where
  whole : (tokens : List Token) (outcomes : List Outcome) → Cuts octets tokens
      → EachBecomes Is [] 1
      (and_last (cut_from zero tokens).ended (cut_from zero tokens).open_tokens) outcomes
      → new ≡ written_of outcomes → told ≡ told_of outcomes → IsRewritten Is octets new told
  broken : (tokens : List Token) (fault : Fault) (outcomes : List Outcome) (rest : List ℕ)
      → Breaks octets tokens fault → EachBecomes Is [] 1 (cut_from zero tokens).ended outcomes
      → octets ≡ flat_map text (cut_from zero tokens).ended ++ rest
      → new ≡ written_of outcomes ++ rest → told ≡ told_of outcomes
      → IsRewritten Is octets new told

-- the octets are whole entries, each ended by its line feed, and these were written for them
pub record AreEntries (Is : Becomes) (octets new : List ℕ) (told : List Refused) : Type 0 where
  pub tokens : List Token
  pub cut : Cuts octets tokens
  pub ended : (cut_from zero tokens).open_tokens ≡ []
  pub outcomes : List Outcome
  pub each : EachBecomes Is [] 1 (cut_from zero tokens).ended outcomes
  pub new_is : new ≡ written_of outcomes
  pub told_is : told ≡ told_of outcomes

-- the octets are whole entries, for which the new ones were written, and octets that break whatever
-- follows them and stay as they are
pub record IsStopped (Is : Becomes) (octets new : List ℕ) (told : List Refused) : Type 0 where
  pub done : List ℕ
  pub old : List ℕ
  pub rest : List ℕ
  pub fault : Fault
  pub are : AreEntries Is done old told
  pub whole : octets ≡ done ++ rest
  pub breaks : IsBrokenOff rest fault
  pub new_is : new ≡ old ++ rest

-- Of octets that are fed, what is written for them whatever follows: the entries that are ended,
-- and, where what follows them breaks whatever comes after it, that as it is; the octets of an
-- entry that isn't ended wait.
pub data IsRewrittenSoFar (Is : Becomes) (fed waiting new : List ℕ) (told : List Refused)
    : Type 0 where
  going : (done : List ℕ) → AreEntries Is done new told → fed ≡ done ++ waiting → IsOpen waiting
      → IsRewrittenSoFar Is fed waiting new told
  stopped : IsStopped Is fed new told → waiting ≡ [] → IsRewrittenSoFar Is fed waiting new told

-- what is written where memory was refused: it is so for a beginning of the octets
pub record IsRewrittenInPart (Is : Becomes) (octets new : List ℕ) (told : List Refused)
    : Type 0 where
  pub front : List ℕ
  pub back : List ℕ
  pub whole : octets ≡ front ++ back
  pub waiting : List ℕ
  pub so_far : IsRewrittenSoFar Is front waiting new told
