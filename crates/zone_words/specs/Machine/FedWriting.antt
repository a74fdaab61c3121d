-- How the octets that a rewriter is fed are written anew, entry by entry.
use Rattle.std.specs.Prelude.{◌≡◌, ℕ, ◌+◌, ◌^◌, ◌<◌, ◌≤◌, List, [], ◌++◌, length, true}
use Rattle.zone_name.specs.Common.{Labels}
use Rattle.zone_rdata.specs.declared.fed.FedStatus.{FedStatus}
use Rattle.zone_rdata.specs.declared.fed.FedStatus.TheVariants as statuses
use Rattle.zone_text.specs.Entries.{Entry}
use Rattle.zone_text.specs.FirstEntry.{IsOpen}
use Rattle.zone_text.specs.Tokens.{Token, Cuts}
use Rattle.zone_text.specs.declared.open_entry.EntryState.TheVariants.{Open}
use Rattle.zone_words.specs.Entry.{BecomesUnder, IsRewriting}
use Rattle.zone_words.specs.Machine.EntryWriting.{IsPushed}
use Rattle.zone_words.specs.Inherited.{IsInherited}
use Rattle.zone_words.specs.Refusal.{AreInShort}
use Rattle.zone_words.specs.Rewriter.{HeldText, IsSoFar, RewriterState}
use Rattle.zone_words.specs.Rewriting.{IsRewrittenInPart, Refused}
use Rattle.zone_words.specs.declared.entry_writer.EntryWriter.{EntryWriter}
use Rattle.zone_words.specs.declared.fed_writer.FedWriter.{FedWriter}
use Rattle.zone_words.specs.declared.inherited.Inherited.{Inherited}

-- a writer as contracts see it
abbrev pub held_of : FedWriter → HeldText
held_of w = record {
  written = w.entries.written.items;
  told = w.entries.refusals;
  waiting = w.unfinished.octets;
  line = w.entries.line;
  inherited = w.entries.inherited;
  broken = w.is_broken;
}

-- what some entries leave
pub record IsLeft (i : Inherited) : Type 0 where
  pub origin : Labels
  pub before : List Entry
  pub is : IsInherited origin before i

-- the octets that wait are an entry's that isn't ended, and where they broke none do
pub record IsFedWriter (w : FedWriter) : Type 0 where
  pub state : w.unfinished.state ≡ Open
  pub is_open : IsOpen w.unfinished.octets
  pub left : IsLeft w.entries.inherited
  pub settled : w.is_broken ≡ true → w.unfinished.octets ≡ []

-- the line of the entry that isn't ended and the number of its octets so far, together
abbrev pub line_reach : FedWriter → ℕ
line_reach w = w.entries.line + length w.unfinished.octets

-- how many entries are told, and the number of these octets, together
abbrev pub count_reach : FedWriter → ℕ
count_reach w = w.entries.refusals.count + length w.unfinished.octets

-- what becomes of octets as an entry after others is written and told
abbrev pub PushesOctets : List ℕ → EntryWriter → EntryWriter → Type 0
PushesOctets octets old new =
    (origin : Labels) (before : List Entry) (tokens : List Token)
    → IsInherited origin before old.inherited → Cuts octets tokens
    → IsPushed origin before tokens old new

-- what was written for the octets fed, and told
pub record HasWritten (origin : Labels) (w : FedWriter) (fed given : List ℕ) : Type 0 where
  pub told : List Refused
  pub in_short : AreInShort told w.entries.refusals
  pub so_far : IsSoFar origin (held_of w) fed (given ++ w.entries.written.items) told

-- for a beginning of them
pub record HasWrittenInPart (origin : Labels) (w : FedWriter) (fed given : List ℕ) : Type 0 where
  pub told : List Refused
  pub in_short : AreInShort told w.entries.refusals
  pub part : IsRewrittenInPart (BecomesUnder origin) fed (given ++ w.entries.written.items) told

-- for the file that ends there
pub record HasWrittenAll (origin : Labels) (w : FedWriter) (fed given : List ℕ) : Type 0 where
  pub told : List Refused
  pub in_short : AreInShort told w.entries.refusals
  pub all : IsRewriting origin fed (given ++ w.entries.written.items) told

-- what was written goes on with these octets
abbrev pub FollowOn : FedWriter → List ℕ → FedWriter → Type 0
FollowOn old part new =
    (origin : Labels) (fed given : List ℕ)
    → HasWritten origin old fed given → HasWritten origin new (fed ++ part) given

-- or with a beginning of them
abbrev pub FollowInPart : FedWriter → List ℕ → FedWriter → Type 0
FollowInPart old part new =
    (origin : Labels) (fed given : List ℕ)
    → HasWritten origin old fed given → HasWrittenInPart origin new (fed ++ part) given

-- the file ends there
abbrev pub WritesAll : FedWriter → FedWriter → Type 0
WritesAll old new =
    (origin : Labels) (fed given : List ℕ)
    → HasWritten origin old fed given → HasWrittenAll origin new fed given

-- a front of the octets was taken
pub record TakesFront (old : FedWriter) (octets left : List ℕ) (new : FedWriter) : Type 0 where
  pub part : List ℕ
  pub whole : octets ≡ part ++ left
  pub some : 0 < length part
  pub lines : line_reach new ≤ line_reach old + length part
  pub counts : count_reach new ≤ count_reach old + length part
  pub follow : FollowOn old part new

-- a rewriter as contracts see it
abbrev pub state_of : FedStatus → ℕ → FedWriter → RewriterState
state_of status fed w = record { held = held_of w; fed = fed; status = status }

-- what a rewriter holds: numbers that fit, and no octets of an entry once it has failed or the file
-- has ended
pub record IsRewriter (status : FedStatus) (fed : ℕ) (w : FedWriter) : Type 0 where
  pub fits : fed + 1 < 2 ^ 64
  pub is : status ≡ statuses.Open → IsFedWriter w
  pub line : status ≡ statuses.Open → line_reach w ≤ fed + 1
  pub count : status ≡ statuses.Open → count_reach w ≤ fed
  pub none : (status ≡ statuses.Open → ⊥) → w.unfinished.octets ≡ []
