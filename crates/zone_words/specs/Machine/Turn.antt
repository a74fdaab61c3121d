-- What becomes of an entry, as the code holds it.
use Rattle.std.specs.Prelude.{◌≡◌, ℕ, ◌-◌, ◌<◌, ◌≤◌, List, [], ◌∷◌, ◌++◌, filter, length, map, Option, Some, None}
use Rattle.std.specs.List.{flat_map}
use Rattle.zone_name.specs.Common.{Labels}
use Rattle.zone_rdata.specs.Item.{RawItem, raw, IsGeneric}
use Rattle.zone_text.specs.Entries.{Entry, entry_of, item_of}
use Rattle.zone_text.specs.Kept.{AreKept}
use Rattle.zone_text.specs.Tokens.{Token, Cuts, AreTokensOf, text}
use Rattle.zone_words.specs.Entry.{BecomesUnder, TokensFail, TokensSay, most_items}
use Rattle.zone_words.specs.Machine.Further.{IsRecordOf, QuotesAreOnOneLine}
use Rattle.zone_words.specs.Machine.KnownItems.{StandsAround}
use Rattle.zone_words.specs.Inherited.{IsInherited}
use Rattle.zone_words.specs.Origin.{IsCasedOrigin}
use Rattle.zone_words.specs.Refusal.{refused_of}
use Rattle.zone_words.specs.Rewriting.{Outcome, Refused}
use Rattle.zone_words.specs.Written.{Anew, renamed, in_octets, stays}
use Rattle.zone_words.specs.declared.further.FurtherRecord.{FurtherRecord}
use Rattle.zone_words.specs.declared.inherited.Inherited.{Inherited}
use Rattle.zone_words.specs.declared.refusal.Refusal.{Refusal}
use Rattle.zone_words.specs.declared.turn.EntryData.{EntryData}
use Rattle.zone_words.specs.declared.turn.Turn.{Turn}
use Rattle.zone_words.specs.declared.turn.Turn.TheVariants as turns
use Rattle.zone_words.specs.declared.writing.Around.{Around}

-- the tokens say this from the type's word on, and these octets stand around it
pub record SayAround (origin : Labels) (before : List Entry) (line : ℕ) (tokens : List Token)
    (around : Around) (it : Anew) : Type 0 where
  pub front : List Token
  pub back : List Token
  pub before_is : around.front.now ≡ text front
  pub after_are : AreTokensOf around.back.now back
  pub say : TokensSay origin before line tokens front back it

-- what the tokens say, and what is wrong with them
abbrev pub TurnIs : Labels → List Entry → ℕ → List Token → EntryData → Turn → Type 0
TurnIs origin before line tokens stated turns.Stays =
    ((front back : List Token) (it : Anew)
    → TokensSay origin before line tokens front back it → ⊥)
    × ((it : Refused) → TokensFail origin before line tokens it → ⊥)
TurnIs origin before line tokens stated (turns.Refused refusal) =
    TokensFail origin before line tokens (refused_of refusal)
TurnIs origin before line tokens stated (turns.Renamed around) =
    SayAround origin before line tokens around (renamed around.number)
TurnIs origin before line tokens stated (turns.InOctets around) =
    (said : SayAround origin before line tokens around
    (in_octets around.number stated.octets.items))
    × (stated.staying.items ≡ text (filter stays said.back))

-- it is so for whatever tokens the octets are cut into, of whose items these are kept, where the
-- entry leaves what is held
abbrev pub TakesTurn : List ℕ → List RawItem → ℕ → Inherited → EntryData → Turn → Type 0
TakesTurn octets kept line left stated turn =
    (origin : Labels) (before : List Entry) (tokens : List Token)
    → IsInherited origin (entry_of line tokens ∷ before) left → Cuts octets tokens
    → AreKept (flat_map item_of tokens) kept → TurnIs origin before line tokens stated turn

-- the tokens are the record's, these of their items are kept, and this origin holds there
pub record AreOfRecord (origin : Labels) (before : List Entry) (line : ℕ) (tokens : List Token)
    (found : FurtherRecord) (kept : List RawItem) (above : Labels) : Type 0 where
  pub is : IsRecordOf before (entry_of line tokens) found
  pub under : IsCasedOrigin origin before above
  pub few : length kept < most_items → flat_map item_of tokens ≡ kept
  pub less : length (flat_map item_of tokens) < most_items → length kept < most_items
  pub many : most_items ≤ length kept → most_items ≤ length (flat_map item_of tokens)

-- it is so for whatever tokens of the record the octets are cut into
abbrev pub TakesRecordsTurn
    : List ℕ → FurtherRecord → List RawItem → ℕ → Labels → EntryData → Turn → Type 0
TakesRecordsTurn octets found kept line above stated turn =
    (origin : Labels) (before : List Entry) (tokens : List Token) → Cuts octets tokens
    → AreOfRecord origin before line tokens found kept above
    → TurnIs origin before line tokens stated turn

-- all items are kept, they are on one line, and the data isn't in the generic form
pub record AreInWords (found : FurtherRecord) (kept : List RawItem) : Type 0 where
  pub few : length kept < most_items
  pub on_one_line : QuotesAreOnOneLine (map raw found.items.now)
  pub in_words : IsGeneric (map raw found.items.now) → ⊥

-- these octets stand around the type's word, where these items are all
pub record StandsBeside (octets : List ℕ) (kept : List RawItem) (found : FurtherRecord)
    (around : Around) : Type 0 where
  pub stands : StandsAround octets kept (length kept - length found.items.now - 1)
      around.front.now around.back.now
  pub number : around.number ≡ found.further.now.number

-- what is told of it
abbrev pub refusal_in : Turn → Option Refusal
refusal_in (turns.Refused refusal) = Some refusal
refusal_in turn = None

abbrev pub told_by : Turn → List Refused
told_by (turns.Refused refusal) = refused_of refusal ∷ []
told_by turn = []

-- what becomes of the entry comes after what was written
pub record IsTurnWritten (origin : Labels) (before : List Entry) (line : ℕ) (tokens : List Token)
    (turn : Turn) (old new : List ℕ) : Type 0 where
  pub outcome : Outcome
  pub becomes : BecomesUnder origin before line tokens outcome
  pub written : new ≡ old ++ text outcome.written
  pub told : outcome.told ≡ told_by turn

abbrev pub WritesTurn : List ℕ → EntryData → Turn → List ℕ → List ℕ → Type 0
WritesTurn octets stated turn old new =
    (origin : Labels) (before : List Entry) (line : ℕ) (tokens : List Token)
    → Cuts octets tokens → TurnIs origin before line tokens stated turn
    → IsTurnWritten origin before line tokens turn old new
