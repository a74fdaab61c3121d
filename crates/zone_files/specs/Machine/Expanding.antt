-- How the octets that an expander is fed are expanded, entry by entry.
use Rattle.std.specs.Prelude.{◌≡◌, ℕ, List, [], ◌∷◌, ◌++◌, true, false}
use Rattle.zone_text.specs.Tokens.{Token, Cuts, line_feed}
use Rattle.zone_text.specs.declared.open_entry.EntryState.TheVariants.{Open}
use Rattle.zone_files.specs.FileExpander.{ExpanderState, Feeds, WritesFor}
use Rattle.zone_files.specs.Machine.Progressing.{Entered, end_of, named_of}
use Rattle.zone_files.specs.declared.expansion.file_expansion.FileExpansion.{FileExpansion}
use Rattle.zone_files.specs.Expansion.{back_in, origin_line}
use Rattle.zone_files.specs.declared.expansion.progress.FileStatus.{FileStatus}
use Rattle.zone_files.specs.declared.expansion.progress.FileStatus.TheVariants as statuses
use Rattle.zone_files.specs.declared.expansion.progress.Progress.{Progress}

abbrev pub state_of : FileExpansion → ExpanderState
state_of x = record {
  holds = x.progress.holding;
  waiting = x.unfinished.octets;
  status = x.progress.status;
  included = named_of x.progress.included;
  generated = x.progress.generated;
  last = x.progress.last;
}

-- the entry that isn't ended goes on
pub record IsExpander (x : FileExpansion) : Type 0 where
  pub state : x.unfinished.state ≡ Open

-- the expansion goes on with these octets, and this was written
abbrev pub Follows : FileExpansion → List ℕ → FileExpansion → List ℕ → List ℕ → Type 0
Follows old part new before after = WritesFor (state_of old) part (state_of new) before after

-- a front of the octets was taken
abbrev pub TakesFront : FileExpansion → List ℕ → List ℕ → FileExpansion → List ℕ → List ℕ → Type 0
TakesFront old octets left new before after =
    Feeds (state_of old) octets left (state_of new) before after

-- the entry that the octets are was taken
abbrev pub EntersOctets : List ℕ → Progress → Progress → List ℕ → List ℕ → Type 0
EntersOctets octets old new before after =
    (tokens : List Token) → Cuts octets tokens → Entered tokens false old new before after

-- as the last one, with a line feed after it
abbrev pub EntersLast : List ℕ → Progress → Progress → List ℕ → List ℕ → Type 0
EntersLast octets old new before after =
    (tokens : List Token) → Cuts octets tokens
    → Entered (tokens ++ line_feed ∷ []) true old new before after

-- the file goes on after an included file, or ends as that does
abbrev pub TakesInnerBy : FileStatus → Progress → Progress → Progress → List ℕ → List ℕ → Type 0
TakesInnerBy statuses.Ended old inner new before after =
    (after ≡ before ++ origin_line old.holding.origin)
    × (new.holding ≡ back_in old.holding inner.holding) × (new.status ≡ end_of old.last)
TakesInnerBy statuses.Broken old inner new before after =
    (after ≡ before) × (new.status ≡ statuses.BrokenOff)
TakesInnerBy statuses.BrokenOff old inner new before after =
    (after ≡ before) × (new.status ≡ statuses.BrokenOff)
TakesInnerBy (statuses.Faulty fault) old inner new before after =
    (after ≡ before) × (new.status ≡ statuses.Faulty fault)
TakesInnerBy (statuses.FaultyAt value) old inner new before after =
    (after ≡ before) × (new.status ≡ statuses.FaultyAt value)
TakesInnerBy status old inner new before after =
    (after ≡ before) × (new.status ≡ statuses.Failed)

abbrev pub TakesInner : Progress → Progress → Progress → List ℕ → List ℕ → Type 0
TakesInner old inner new before after = TakesInnerBy inner.status old inner new before after
