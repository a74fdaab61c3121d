-- The records that a master file with words of further types states (RFC 1035 5.1, RFC 3597 5).
use Rattle.std.specs.Prelude.{◌≡◌, ◌↔◌, ℕ, zero, ◌+◌, List, [], ◌∷◌, count_by, ◌==◌, ◌≤◌, Some, None}
use Rattle.std.specs.List.{flat_map}
use Rattle.zone_name.specs.Common.{Labels}
use Rattle.zone_rdata.specs.Generic.{StatesGeneric}
use Rattle.zone_rdata.specs.Record.{Record, IsRecord}
use Rattle.zone_rdata.specs.declared.fault.Fault.{Fault}
use Rattle.zone_rdata.specs.declared.fault.Place.TheVariants.{Line}
use Rattle.zone_rdata.specs.declared.record.Placed.{Placed}
use Rattle.zone_text.specs.Breaks.{Breaks}
use Rattle.zone_text.specs.Entries.{Entry, and_last, cut_from, entry_of, item_of, open_line}
use Rattle.zone_text.specs.FileReads.{Ending}
use Rattle.zone_text.specs.Inherited.{latest, IsOrigin, IsLastOwner, IsOwner, HasClass, class_word, default_ttl_text, ttl_text}
use Rattle.zone_text.specs.Records.{IsLastMinimum, HasTtl, EntryStates, StatesNothing}
use Rattle.zone_text.specs.Statements.{statement_of}
use Rattle.zone_text.specs.Tokens.{Token, text, Cuts}
use Rattle.zone_words.specs.Entry.{TokensSay}
use Rattle.zone_words.specs.Written.{Anew, renamed, in_octets}

-- entries, the latest first, that leave the same to an entry after them: the origin, the last
-- owner, the class, the TTLs and the MINIMUM
pub record LeaveAlike (origin : Labels) (before after : List Entry) : Type 0 where
  pub under : (name : Labels) → IsOrigin origin before name ↔ IsOrigin origin after name
  pub owner : (name : Labels) → IsLastOwner origin before name ↔ IsLastOwner origin after name
  pub class : latest class_word before ≡ latest class_word after
  pub default_ttl : latest default_ttl_text before ≡ latest default_ttl_text after
  pub ttl : latest ttl_text before ≡ latest ttl_text after
  pub minimum : (seconds : ℕ)
      → IsLastMinimum origin before seconds ↔ IsLastMinimum origin after seconds

-- the record has the owner, the class and the TTL of an entry, its own or inherited ones, at which
-- an origin holds, and can stand in a zone
pub record HasItsParts (origin : Labels) (before : List Entry) (entry : Entry) (r : Record)
    : Type 0 where
  pub above : Labels
  pub under : IsOrigin origin before above
  pub owner : IsOwner origin before (statement_of entry) r.owner
  pub class : HasClass before entry r.class
  pub ttl : HasTtl origin before entry r.ttl
  pub fits : IsRecord r

-- it has the type that an entry says anew, and as its data the octets that the entry's words state,
-- or those of the generic form in the tokens after the type
abbrev pub HasItsData : Anew → List Token → Record → Type 0
HasItsData (renamed number) back r =
    (r.kind ≡ number) × StatesGeneric (flat_map item_of back) r.octets
HasItsData (in_octets number octets) back r = (r.kind ≡ number) × (r.octets ≡ octets)

-- The record that an entry of a file states: the one of a further type that it says anew, or else
-- the one that it states by itself. Names in words of further types stand under the first origin,
-- which has letters in both cases, and all others under the second.
pub data StatesWithWords (cased origin : Labels) (before : List Entry) (line : ℕ)
    (tokens : List Token) (r : Record) : Type 0 where
  of_further : (front back : List Token) (it : Anew)
      → TokensSay cased before line tokens front back it
      → HasItsParts origin before (entry_of line tokens) r → HasItsData it back r
      → StatesWithWords cased origin before line tokens r
  by_itself : ((front back : List Token) (it : Anew)
      → TokensSay cased before line tokens front back it → ⊥)
      → EntryStates origin before (entry_of line tokens) r
      → StatesWithWords cased origin before line tokens r

-- an entry states nothing or the first of the records, at its line; the others follow
pub data FirstWithWords (cased origin : Labels) (before : List Entry) (line : ℕ)
    (tokens : List Token) (Others : List Placed → Type 0) (placed : List Placed) : Type 0 where
  states_none : StatesNothing origin before (statement_of (entry_of line tokens)) → Others placed
      → FirstWithWords cased origin before line tokens Others placed
  states_one : (p : Placed) (others : List Placed)
      → StatesWithWords cased origin before line tokens p.rr → p.place ≡ Line line
      → placed ≡ p ∷ others → Others others
      → FirstWithWords cased origin before line tokens Others placed

-- entry after entry, from a line on
abbrev pub EachWithWords : Labels → Labels → List Entry → ℕ → List (List Token) → List Placed
    → Type 0
EachWithWords cased origin before line [] placed = placed ≡ []
EachWithWords cased origin before line (tokens ∷ entries) placed =
    FirstWithWords cased origin before line tokens
    (EachWithWords cased origin (entry_of line tokens ∷ before)
    (line + count_by (λ c. c == 10) (text tokens)) entries) placed

-- the text of a file states these records in this order, each at its line, some of them in words
pub record FileStatesWithWords (cased origin : Labels) (octets : List ℕ) (placed : List Placed)
    : Type 0 where
  pub tokens : List Token
  pub cut : Cuts octets tokens
  pub each : EachWithWords cased origin [] 1
      (and_last (cut_from zero tokens).ended (cut_from zero tokens).open_tokens) placed

-- an entry states nothing or the first of the records, and others follow; or it states neither
-- nothing nor a record, in words neither, and its fault ends the reading
pub data ReadsWithWords (cased origin : Labels) (before : List Entry) (line : ℕ)
    (tokens : List Token) (Others : List Placed → Ending → Type 0) (placed : List Placed)
    (ending : Ending) : Type 0 where
  stated : FirstWithWords cased origin before line tokens (λ others. Others others ending) placed
      → ReadsWithWords cased origin before line tokens Others placed ending
  refused : (fault : Fault)
      → ((r : Record) → StatesWithWords cased origin before line tokens r → ⊥)
      → (StatesNothing origin before (statement_of (entry_of line tokens)) → ⊥)
      → placed ≡ [] → ending ≡ Some (fault, Line line)
      → ReadsWithWords cased origin before line tokens Others placed ending

-- entry after entry, from a line on, up to the first fault; what comes after the last is known
abbrev pub ReadEachWithWords : Labels → Labels → Ending → List Entry → ℕ → List (List Token)
    → List Placed → Ending → Type 0
ReadEachWithWords cased origin last before line [] placed ending = (placed ≡ []) × (ending ≡ last)
ReadEachWithWords cased origin last before line (tokens ∷ entries) placed ending =
    ReadsWithWords cased origin before line tokens
    (ReadEachWithWords cased origin last (entry_of line tokens ∷ before)
    (line + count_by (λ c. c == 10) (text tokens)) entries) placed ending

-- the records that a file states up to the first entry that states none, or up to what breaks the
-- file, and the fault there with its line
pub data FileReadsWithWords (cased origin : Labels) (octets : List ℕ) (placed : List Placed)
    (ending : Ending) : Type 0 where
  whole : (tokens : List Token) → Cuts octets tokens
      → ReadEachWithWords cased origin None [] 1
      (and_last (cut_from zero tokens).ended (cut_from zero tokens).open_tokens) placed ending
      → FileReadsWithWords cased origin octets placed ending
  broken : (tokens : List Token) (fault : Fault) → Breaks octets tokens fault
      → ReadEachWithWords cased origin (Some (fault, Line (open_line tokens))) [] 1
      (cut_from zero tokens).ended placed ending
      → FileReadsWithWords cased origin octets placed ending

-- a reading ends with a fault at a line or before it
pub record EndsBy (line : ℕ) (ending : Ending) : Type 0 where
  pub fault : Fault
  pub at : ℕ
  pub is : ending ≡ Some (fault, Line at)
  pub early : at ≤ line
