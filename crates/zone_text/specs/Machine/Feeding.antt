-- How the octets that a source is fed are read, entry by entry.
use Rattle.std.specs.Prelude.{◌≡◌, ℕ, ◌+◌, ◌≤◌, ◌<◌, ◌^◌, List, [], ◌∷◌, ◌++◌, length, count_by, ◌==◌, true, false, Some, None}
use Rattle.zone_name.specs.Common.{Labels}
use Rattle.zone_rdata.specs.FedSource.{SourceState, is_failed, is_finished}
use Rattle.zone_rdata.specs.declared.fault.Fault.{Fault}
use Rattle.zone_rdata.specs.declared.fault.Place.{Place}
use Rattle.zone_rdata.specs.declared.fed.FedStatus.{FedStatus}
use Rattle.zone_rdata.specs.declared.record.Placed.{Placed}
use Rattle.zone_text.specs.Decided.{FileDecides}
use Rattle.zone_text.specs.ParserState.{IsStateAfter}
use Rattle.zone_text.specs.Entries.{Entry, entry_of}
use Rattle.zone_text.specs.FileReads.{FileReads, ReadEach}
use Rattle.zone_text.specs.OpenEntry.{HeldEntry}
use Rattle.zone_text.specs.Tokens.{Token, Cuts, text}
use Rattle.zone_text.specs.TextSource.{FileKept, FileLeaves}
use Rattle.zone_text.specs.declared.ended.EndedEntries.{EndedEntries}
use Rattle.zone_text.specs.declared.splitter.EntrySplitter.{EntrySplitter}
use Rattle.zone_text.specs.declared.open_entry.EntryState.TheVariants.{Open}

-- An entry was read after others: the record that it states came after theirs, or its fault was
-- decided. If it is no fault, the state and the line are those after the entry.
pub record ReadsEntry (origin : Labels) (before : List Entry) (tokens : List Token)
    (old new : EndedEntries) : Type 0 where
  pub others : List Placed
  pub read : ReadEach origin None before (entry_of old.line tokens ∷ []) others new.decided.ending
  pub records : new.decided.placed ≡ old.decided.placed ++ others
  pub state : new.decided.ending ≡ None
      → IsStateAfter origin (entry_of old.line tokens ∷ before) new.state
  pub line : new.decided.ending ≡ None → new.line ≡ old.line + count_by (λ c. c == 10) (text tokens)

-- octets are read as the entry after others, whatever these are
pub record ReadsOctets (octets : List ℕ) (old new : EndedEntries) : Type 0 where
  pub reads : (origin : Labels) (before : List Entry) (tokens : List Token)
      → IsStateAfter origin before old.state → Cuts octets tokens
      → ReadsEntry origin before tokens old new
  pub later : old.line ≤ new.line
  pub near : new.line ≤ old.line + length octets

-- the entries that were read and the octets after them follow from the octets fed and the records
-- given
pub record Follow (origin : Labels) (ended : EndedEntries) (unfinished : List ℕ) (fed : List ℕ)
    (given : List Placed) : Type 0 where
  pub decided : FileDecides origin fed (given ++ ended.decided.placed) ended.decided.ending
  pub leave : ended.decided.ending ≡ None → FileLeaves origin fed ended.state ended.line unfinished

-- the unfinished entry isn't ended, and its octets are dropped where a fault is decided
pub record IsSplitter (ended : EndedEntries) (unfinished : HeldEntry) : Type 0 where
  pub state : unfinished.state ≡ Open
  pub dropped : (found : Fault × Place) → ended.decided.ending ≡ Some found
      → unfinished.octets ≡ []
  pub line : 1 ≤ ended.line

-- the line of the unfinished entry and the number of its octets so far, together
abbrev pub reach : EntrySplitter → ℕ
reach s = s.ended.line + length s.unfinished.octets

-- what follows from the octets before goes on with these
abbrev pub FollowOn : EntrySplitter → List ℕ → EntrySplitter → Type 0
FollowOn old part new =
    (origin : Labels) (fed : List ℕ) (given : List Placed)
    → Follow origin old.ended old.unfinished.octets fed given
    → Follow origin new.ended new.unfinished.octets (fed ++ part) given

-- some of the octets at the front were taken, and the others are left
pub record TakesPart (old : EntrySplitter) (octets left : List ℕ) (new : EntrySplitter) : Type 0 where
  pub part : List ℕ
  pub whole : octets ≡ part ++ left
  pub some : 0 < length part
  pub is : IsSplitter new.ended new.unfinished
  pub near : reach new ≤ reach old + length part
  pub follow : FollowOn old part new

-- what is read of a file that ends there
abbrev pub ReadsAll : EntrySplitter → EntrySplitter → Type 0
ReadsAll old new =
    (origin : Labels) (fed : List ℕ) (given : List Placed)
    → Follow origin old.ended old.unfinished.octets fed given
    → FileReads origin fed (given ++ new.ended.decided.placed) new.ended.decided.ending

-- a source as contracts see it
abbrev pub state_of : FedStatus → ℕ → EndedEntries → List ℕ → SourceState FileKept
state_of status fed ended unfinished = record {
  pending =
      record {
        failed = is_failed status;
        records = ended.decided.placed;
        ending = ended.decided.ending;
      };
  held =
      record {
        finished = is_finished status;
        fed = fed;
        kept = record { state = ended.state; line = ended.line };
        unfinished = unfinished;
      };
}

-- what a source holds: nothing of the unfinished entry once it has failed or the file has ended,
-- and numbers that fit
pub record IsSource (status : FedStatus) (fed : ℕ) (ended : EndedEntries)
    (unfinished : HeldEntry) : Type 0 where
  pub is : is_failed status ≡ false → IsSplitter ended unfinished
  pub line : is_failed status ≡ false → ended.line + length unfinished.octets ≤ fed + 1
  pub fits : fed + 1 < 2 ^ 64
  pub none_failed : is_failed status ≡ true → unfinished.octets ≡ []
  pub none_finished : is_finished status ≡ true → unfinished.octets ≡ []
