-- How an entry is read in the state that others left.
use Rattle.std.specs.Prelude.{◌≡◌, ℕ, List, [], ◌∷◌, ◌++◌, Option, Some, None, MatchOption}
use Rattle.zone_name.specs.Common.{Labels}
use Rattle.zone_name.specs.Spelling.{Spells}
use Rattle.zone_rdata.specs.Record.{Record}
use Rattle.zone_rdata.specs.Spelling.{RawItem, bare}
use Rattle.zone_rdata.specs.declared.fault.Fault.{Fault}
use Rattle.zone_rdata.specs.declared.fault.Fault.TheVariants.{NoOwner}
use Rattle.zone_rdata.specs.declared.fault.Place.{Place}
use Rattle.zone_rdata.specs.declared.queue.PendingRecords.{PendingRecords}
use Rattle.zone_rdata.specs.declared.record.Placed.{Placed}
use Rattle.zone_text.specs.ParserState.{IsStateAfter}
use Rattle.zone_text.specs.Entries.{Entry}
use Rattle.zone_text.specs.EntryFault.{EntryFault}
use Rattle.zone_text.specs.Statements.{statement_of, parts_in, parts_after}
use Rattle.zone_text.specs.Inherited.{IsLastOwner, IsOwner}
use Rattle.zone_text.specs.Records.{StatesNothing, EntryStates}
use Rattle.zone_text.specs.declared.parser_state.ParserState.{ParserState}

-- an entry that states no record, and what is left to those after it
abbrev pub LeavesNoRecord : Labels → List Entry → Entry → ParserState → Type 0
LeavesNoRecord origin before entry next =
    StatesNothing origin before (statement_of entry) × IsStateAfter origin (entry ∷ before) next

-- What an entry at a place decides after what was decided, and what is left to those after it:
-- nothing; the record that it states; or its fault, after which nothing is said of what is left
pub data DecidesEntry (origin : Labels) (before : List Entry) (entry : Entry) (place : Place)
    (old new : PendingRecords) (next : ParserState) : Type 0 where
  decides_none : LeavesNoRecord origin before entry next → new ≡ old
      → DecidesEntry origin before entry place old new next
  decides_one : (r : Record) → EntryStates origin before entry r
      → IsStateAfter origin (entry ∷ before) next
      → new.placed ≡ old.placed ++ (record { rr = r; place = place }) ∷ []
      → new.ending ≡ old.ending → DecidesEntry origin before entry place old new next
  decides_fault : (fault : Fault) → EntryFault origin before entry fault
      → new.placed ≡ old.placed → new.ending ≡ Some (fault, place)
      → DecidesEntry origin before entry place old new next

abbrev pub with_owner : Option Labels → ParserState → ParserState
with_owner owner d = record d { owner = owner }

-- A record entry in the state that others left, but for the owner, which is the entry's: that
-- owner, and the items after it
pub record IsRecordEntry (origin : Labels) (before : List Entry) (entry : Entry) (d : ParserState)
    (name : Labels) (items : List RawItem) : Type 0 where
  pub held : Option Labels
  pub state : IsStateAfter origin before (with_owner held d)
  pub owner : IsOwner origin before (statement_of entry) name
  pub parts : parts_in (statement_of entry) ≡ Some (parts_after [] items)

-- the owner of a record entry and of those after it, or the fault that there is none
abbrev pub HasOwnerOrNone : Labels → List Entry → Entry → ParserState → List RawItem → Type 0
HasOwnerOrNone origin before entry d items =
    MatchOption d.owner (EntryFault origin before entry NoOwner)
    (λ name. IsRecordEntry origin before entry d name items
    × IsLastOwner origin (entry ∷ before) name)

-- The record that an entry states comes after others, with its place, and what is left to the
-- entries after it
pub record AppendsRecord (origin : Labels) (before : List Entry) (entry : Entry) (place : Place)
    (old new : List Placed) (next : ParserState) : Type 0 where
  pub stated : Record
  pub states : EntryStates origin before entry stated
  pub left : IsStateAfter origin (entry ∷ before) next
  pub appended : new ≡ old ++ (record { rr = stated; place = place }) ∷ []

-- the owner becomes the name that a text spells under the origin
pub record SetsOwner (text : List ℕ) (d next : ParserState) : Type 0 where
  pub name : Labels
  pub spelled : Spells (Some d.origin) text name
  pub others : next ≡ with_owner (Some name) d

abbrev pub one_bare : List RawItem → Option (List ℕ)
one_bare (bare text ∷ []) = Some text
one_bare items = None
