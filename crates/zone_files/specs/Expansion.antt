-- The expanded text of a master file and those that it includes (RFC 1035 5.1), entry by entry. A
-- file is its octets here: no file system is part of the definition. `$GENERATE`, which is BIND's,
-- becomes its lines. Every other directive stays.
use Rattle.std.specs.Prelude.{◌≡◌, ℕ, zero, ◌+◌, ◌==◌, ◌<◌, ◌&&◌, nat_le, nat_lt, List, [], ◌∷◌, ◌++◌, Bool, bytes_eq, codes, drop, false, length, replicate, true, Option, Some, None, Result, Err, Ok}
use Rattle.std.specs.List.{AllByRecursion, count_by, flat_map, list_any}
use Rattle.std.specs.Option.{option_or}
use Rattle.zone_name.specs.Common.{Labels, NothingIs}
use Rattle.zone_name.specs.Name.{folded_label}
use Rattle.zone_name.specs.Spelling.{SpellsCased}
use Rattle.zone_name.specs.Text.{name_text}
use Rattle.zone_rdata.specs.Spelling.{RawItem, bare, quoted}
use Rattle.zone_rdata.specs.Strings.{item_text}
use Rattle.zone_text.specs.Entries.{cut_from, entry_of, item_of}
use Rattle.zone_text.specs.Breaks.{Breaks}
use Rattle.zone_text.specs.Statements.{Statement, includes, owned, sets_origin, statement_of, unknown, unowned}
use Rattle.zone_text.specs.Tokens.{Token, Cuts, line_feed, text}
use Rattle.zone_rdata.specs.declared.fault.Fault.{Fault}
use Rattle.zone_words.specs.Inherited.{IsOneOrNone}
use Rattle.zone_words.specs.Origin.{NamesOrigin}
use Rattle.zone_generate.specs.Entry.{Generation, generation_in}
use Rattle.zone_generate.specs.Lines.{AreLines, last_owner}
use Rattle.zone_generate.specs.declared.failing.GenerateFault.{GenerateFault}
use Rattle.zone_generate.specs.declared.failing.GenerateFault.TheVariants as unmade
use Rattle.zone_files.specs.FileName.{NamesFile}
use Rattle.zone_files.specs.Places.{counted}
use Rattle.zone_files.specs.declared.fault.ExpansionFault.{ExpansionFault}
use Rattle.zone_files.specs.declared.fault.ExpansionFault.TheVariants as faults

-- ---- what holds for an entry

-- The origin and the last stated owner of its file, and the last owner that the expanded text
-- states. Of the run: the directory, the names of the files that are open, the main file first, and
-- how many files were included so far; the line of the expanded text that comes next, from 1; and the
-- lines of the expanded text whose entries are taken out, in their order.
pub record Holds : Type 0 where
  pub origin : Labels
  pub owner : Option Labels
  pub stated : Option Labels
  pub directory : Option (List ℕ)
  pub open_files : List (List ℕ)
  pub opened : ℕ
  pub line : ℕ
  pub taken_out : List ℕ

-- after so many lines
abbrev pub after_count : ℕ → Holds → Holds
after_count lines h = record h { line = counted (h.line + lines) }

abbrev pub line_feeds : List ℕ → ℕ
line_feeds text = count_by (λ c. c == 10) text

-- after the lines of an entry
abbrev pub past : List ℕ → Holds → Holds
past entry h = after_count (line_feeds entry) h

-- after an entry that names an origin, or none
abbrev pub under : Option Labels → Holds → Holds
under (Some origin) h = record h { origin = origin }
under None h = h

-- after an entry that states an owner, or states none that is a name
abbrev pub owned_by : Option Labels → Holds → Holds
owned_by named h = record h { owner = option_or named h.owner; stated = option_or named h.stated }

-- after an owner that the expanded text alone states
abbrev pub stating : Option Labels → Holds → Holds
stating named h = record h { stated = option_or named h.stated }

-- After the lines of a `$GENERATE`, one for each of its values: the text states the owner of the last
-- one, where it is a name. The owner that holds in the file stays.
abbrev pub after_lines : Option Labels → ℕ → Holds → Holds
after_lines named values h = stating named (after_count values h)

-- After an entry that is taken out: it states its owner, where that is a name, and nothing else.
abbrev pub left_out : Option Labels → List ℕ → Holds → Holds
left_out named entry h = record h {
  owner = option_or named h.owner;
  line = counted (h.line + line_feeds entry);
  taken_out = drop 1 h.taken_out;
}

-- for the first entry of a file that is included under an origin, after the line of that
abbrev pub within : List ℕ → Labels → Holds → Holds
within name origin h = record h {
  origin = origin;
  open_files = h.open_files ++ name ∷ [];
  opened = h.opened + 1;
  line = counted (h.line + 1);
}

-- After the included file and a line with the origin that held before: the file's own origin and
-- owner hold for no entry of the file that includes it.
abbrev pub back_in : Holds → Holds → Holds
back_in h inner = record h {
  stated = inner.stated;
  opened = inner.opened;
  line = counted (inner.line + 1);
  taken_out = inner.taken_out;
}

-- ---- what becomes of an entry

-- the text in its place, and what holds after it; the file in its place, and its origin; why nothing
-- follows; or the lines before the first value that has none, after which nothing follows
pub data Outcome : Type 0 where
  stays : List ℕ → Holds → Outcome
  opens : List ℕ → Labels → Outcome
  fails : ExpansionFault → Outcome
  lacks_line : List ℕ → ℕ → Outcome

-- the name that an owner spells
abbrev pub SpellsOwner : Labels → RawItem → Labels → Type 0
SpellsOwner origin (bare text) name = SpellsCased (Some origin) text name
SpellsOwner origin (quoted text) name = ⊥

-- A record that omits its owner: the one that holds in its file, absolute, is written before it
-- where the expanded text states another one last. Where none holds in its file, the expanded text
-- may state none.
pub data WithOwner (h : Holds) (entry : List ℕ) (outcome : Outcome) : Type 0 where
  same : h.owner ≡ h.stated → outcome ≡ stays entry (past entry h) → WithOwner h entry outcome
  another : (owner : Labels) → h.owner ≡ Some owner → (h.stated ≡ Some owner → ⊥)
      → outcome ≡ stays (name_text owner ++ entry) (stating (Some owner) (past entry h))
      → WithOwner h entry outcome
  none : (owner : Labels) → h.owner ≡ None → h.stated ≡ Some owner
      → outcome ≡ fails faults.NoOwner → WithOwner h entry outcome

-- the file name and the origin of an `$INCLUDE`
pub record Included : Type 0 where
  pub file : List ℕ
  pub origin : Labels

-- the items after the directive's word: a file name, and perhaps an origin
abbrev pub StatesInclude : Labels → List RawItem → Included → Type 0
StatesInclude above [] it = ⊥
StatesInclude above (file ∷ []) it = (it.file ≡ item_text file) × (it.origin ≡ above)
StatesInclude above (file ∷ item ∷ items) it =
    (it.file ≡ item_text file) × NamesOrigin above (item ∷ items) it.origin

-- at most ten included files are open at once, at most ten thousand in all, and none twice
pub record MayOpen (h : Holds) (name : List ℕ) : Type 0 where
  pub few_open : length h.open_files < 11
  pub few_opened : h.opened < 10000
  pub not_open : list_any (λ other. bytes_eq other name) h.open_files ≡ false

pub data Includes (h : Holds) (items : List RawItem) (outcome : Outcome) : Type 0 where
  bad_include : NothingIs (StatesInclude h.origin items) → outcome ≡ fails faults.BadInclude
      → Includes h items outcome
  bad_name : (it : Included) → StatesInclude h.origin items it
      → NothingIs (NamesFile h.directory it.file) → outcome ≡ fails faults.BadFileName
      → Includes h items outcome
  too_many : (it : Included) (name : List ℕ) → StatesInclude h.origin items it
      → NamesFile h.directory it.file name → (MayOpen h name → ⊥)
      → outcome ≡ fails faults.TooManyIncludes → Includes h items outcome
  is_opened : (it : Included) (name : List ℕ) → StatesInclude h.origin items it
      → NamesFile h.directory it.file name → MayOpen h name → outcome ≡ opens name it.origin
      → Includes h items outcome

-- the fault of a `$GENERATE` before its first line
abbrev pub generate_fault : GenerateFault → ExpansionFault
generate_fault unmade.BadGenerate = faults.BadGenerate
generate_fault unmade.BadRange = faults.BadRange
generate_fault unmade.TooManyValues = faults.TooManyValues

-- the name that the owner of the last line spells, if it has one
abbrev pub SpellsLast : Labels → Option (List ℕ) → Labels → Type 0
SpellsLast origin None name = ⊥
SpellsLast origin (Some text) name = SpellsCased (Some origin) text name

-- lines for all values, or those before the first value that has none
abbrev pub as_lines : List ℕ → Holds → Option ℕ → Outcome
as_lines lines next None = stays lines next
as_lines lines next (Some value) = lacks_line lines value

-- a `$GENERATE`, by the items after its word: its lines, value by value
pub data Generates (h : Holds) (items : List RawItem) (outcome : Outcome) : Type 0 where
  no_lines : (fault : GenerateFault) → generation_in items ≡ Err fault
      → outcome ≡ fails (generate_fault fault) → Generates h items outcome
  has_lines : (g : Generation) (lines : List ℕ) (fault : Option ℕ) (named : Option Labels)
      → generation_in items ≡ Ok g → AreLines g.templates g.values lines fault
      → IsOneOrNone (SpellsLast h.origin (last_owner g.templates g.values)) named
      → outcome ≡ as_lines lines (after_lines named (length g.values) h) fault
      → Generates h items outcome

-- whether the first of the items is the word `$GENERATE`, in any letter case
abbrev pub says_generate : List RawItem → Bool
says_generate (bare word ∷ items) = bytes_eq (folded_label word) (codes "$generate")
says_generate items = false

-- a directive that is neither RFC 1035's nor RFC 2308's
abbrev pub DirectiveBecomes : Bool → Holds → List ℕ → List RawItem → Outcome → Type 0
DirectiveBecomes true h entry items outcome = Generates h (drop 1 items) outcome
DirectiveBecomes false h entry items outcome = outcome ≡ stays entry (past entry h)

-- by what the entry says; `entry` is its text
abbrev pub StatementBecomes : Holds → List ℕ → List RawItem → Statement → Outcome → Type 0
StatementBecomes h entry items (sets_origin names) outcome =
    (named : Option Labels) × IsOneOrNone (NamesOrigin h.origin names) named
    × (outcome ≡ stays entry (under named (past entry h)))
StatementBecomes h entry items (owned item rest) outcome =
    (named : Option Labels) × IsOneOrNone (SpellsOwner h.origin item) named
    × (outcome ≡ stays entry (owned_by named (past entry h)))
StatementBecomes h entry items (unowned rest) outcome = WithOwner h entry outcome
StatementBecomes h entry items includes outcome = Includes h (drop 1 items) outcome
StatementBecomes h entry items unknown outcome =
    DirectiveBecomes (says_generate items) h entry items outcome
StatementBecomes h entry items form outcome = outcome ≡ stays entry (past entry h)

-- ---- entries that are taken out

-- how many lines a `$GENERATE` stands for: one for each value, and one where it has a fault
abbrev pub values_or_one : Result Generation GenerateFault → ℕ
values_or_one (Ok g) = length g.values
values_or_one (Err fault) = 1

abbrev pub lines_if : Bool → List RawItem → ℕ
lines_if true items = values_or_one (generation_in (drop 1 items))
lines_if false items = 1

-- In how many lines of the expanded text a fault of the entry may be: in that with which it begins,
-- or in each line of a `$GENERATE`.
abbrev pub lines_of : Statement → List RawItem → ℕ
lines_of unknown items = lines_if (says_generate items) items
lines_of form items = 1

-- whether the first of the lines whose entries are taken out is one of so many that come next
abbrev pub is_next : List ℕ → ℕ → ℕ → Bool
is_next [] line lines = false
is_next (first ∷ others) line lines = nat_le line first && nat_lt first (line + lines)

-- the owner that an entry states, if that is a name
abbrev pub StatesOwner : Labels → Statement → Option Labels → Type 0
StatesOwner origin (owned item rest) named = IsOneOrNone (SpellsOwner origin item) named
StatesOwner origin form named = named ≡ None

-- of an entry that is taken out, its line feeds stay
abbrev pub IsTakenOut : Holds → List ℕ → Statement → Outcome → Type 0
IsTakenOut h entry form outcome =
    (named : Option Labels) × StatesOwner h.origin form named
    × (outcome ≡ stays (replicate (line_feeds entry) 10) (left_out named entry h))

abbrev pub TakenOutOr : Bool → Holds → List ℕ → List RawItem → Statement → Outcome → Type 0
TakenOutOr true h entry items form outcome = IsTakenOut h entry form outcome
TakenOutOr false h entry items form outcome = StatementBecomes h entry items form outcome

-- by whether it is to be taken out, and what it says
abbrev pub BecomesBy : Holds → List ℕ → List RawItem → Statement → Outcome → Type 0
BecomesBy h entry items form =
    TakenOutOr (is_next h.taken_out h.line (lines_of form items)) h entry items form

abbrev pub EntryBecomes : Holds → List Token → Outcome → Type 0
EntryBecomes h tokens outcome =
    BecomesBy h (text tokens) (flat_map item_of tokens) (statement_of (entry_of 1 tokens)) outcome

-- ---- a file

-- the entries of a text, each with a line feed at its end
abbrev pub each_with_line_feed : List (List Token) → List Token → List (List Token)
each_with_line_feed ended [] = ended
each_with_line_feed ended (p ∷ tokens) = ended ++ ((p ∷ tokens) ++ line_feed ∷ []) ∷ []

-- The entries of a file, and where its text breaks the octets from the entry on that is open there
pub data IsFile (octets : List ℕ) (entries : List (List Token)) (tail : Option (List ℕ))
    : Type 0 where
  whole : (tokens : List Token) → Cuts octets tokens
      → entries ≡ each_with_line_feed (cut_from zero tokens).ended (cut_from zero tokens).open_tokens
      → tail ≡ None → IsFile octets entries tail
  broken : (tokens : List Token) (fault : Fault) (rest : List ℕ) → Breaks octets tokens fault
      → entries ≡ (cut_from zero tokens).ended
      → octets ≡ flat_map text entries ++ rest → tail ≡ Some rest → IsFile octets entries tail

-- The files that a file includes, in the order of its `$INCLUDE`s: the octets of the first and the
-- files that it includes in turn, and the others.
pub data Files : Type 0 where
  no_files : Files
  file : (octets : List ℕ) → (inner others : Files) → Files

-- How a text ends: each entry was expanded, and this holds after the last; a text breaks; an entry
-- has a fault; the templates of a `$GENERATE` say nothing for this value, which is the fault
-- `BadTemplate`; or the file of this name isn't there. After all but the first nothing follows.
pub data Ending : Type 0 where
  ends : Holds → Ending
  breaks_off : Ending
  stops : ExpansionFault → Ending
  stops_at : ℕ → Ending
  wants : List ℕ → Ending

-- `$ORIGIN` and a name, absolute, on a line
abbrev pub origin_line : Labels → List ℕ
origin_line origin = codes "$ORIGIN " ++ name_text origin ++ 10 ∷ []

-- texts by what holds before them, the entries to expand and the octets after these
abbrev pub Expanding : Type 1
Expanding = Holds → List (List Token) → Option (List ℕ) → List ℕ → Ending → Type 0

-- what follows an entry, where it is known what the entries after it and an included file make
abbrev pub AfterEntry : (Holds → List ℕ → Ending → Type 0) → (List ℕ → Labels → Type 0) → List ℕ → Ending → Outcome → Type 0
AfterEntry Rest Opens written ending (stays made next) =
    (more : List ℕ) × (written ≡ made ++ more) × Rest next more ending
AfterEntry Rest Opens written ending (opens name origin) = Opens name origin
AfterEntry Rest Opens written ending (fails fault) = (written ≡ []) × (ending ≡ stops fault)
AfterEntry Rest Opens written ending (lacks_line lines value) =
    (written ≡ lines) × (ending ≡ stops_at value)

-- entry by entry
abbrev pub EachExpands : (List ℕ → Labels → Expanding) → Expanding
EachExpands Opens h [] None written ending = (written ≡ []) × (ending ≡ ends h)
EachExpands Opens h [] (Some rest) written ending = (written ≡ rest) × (ending ≡ breaks_off)
EachExpands Opens h (entry ∷ entries) tail written ending =
    (outcome : Outcome) × EntryBecomes h entry outcome
    × AfterEntry (λ next more last. EachExpands Opens next entries tail more last)
    (λ name origin. Opens name origin h entries tail written ending) written ending outcome

-- what follows the text of an included file, by how that ends
abbrev pub AfterIncluded : (Holds → List ℕ → Ending → Type 0) → Holds → List ℕ → Ending → Ending → Type 0
AfterIncluded Rest h written ending (ends inner) =
    (more : List ℕ) × (written ≡ origin_line h.origin ++ more) × Rest (back_in h inner) more ending
AfterIncluded Rest h written ending stopped = (written ≡ []) × (ending ≡ stopped)

-- an included file within the file that includes it: its own entries, their text, and how they end
pub record Inside (octets : List ℕ) (Own : Expanding) (h : Holds) : Type 0 where
  pub entries : List (List Token)
  pub tail : Option (List ℕ)
  pub is_file : IsFile octets entries tail
  pub written : List ℕ
  pub ending : Ending
  pub each : Own h entries tail written ending

-- What an `$INCLUDE` and the entries after it make: the text of the file between two `$ORIGIN`s, and
-- what follows it.
abbrev pub Opening : Files → List ℕ → Labels → Expanding
Opening no_files name origin h entries tail written ending =
    (written ≡ []) × (ending ≡ wants name)
Opening (file octets inner others) name origin h entries tail written ending =
    (inside : Inside octets (EachExpands (Opening inner)) (within name origin h)) × (rest : List ℕ)
    × (written ≡ origin_line origin ++ (inside.written ++ rest))
    × AfterIncluded (λ next more last. EachExpands (Opening others) next entries tail more last) h
    rest ending inside.ending

-- The text of a file and those that it includes, from what holds before it
pub record Expands (h : Holds) (octets : List ℕ) (files : Files) (written : List ℕ)
    (ending : Ending) : Type 0 where
  pub entries : List (List Token)
  pub tail : Option (List ℕ)
  pub is_file : IsFile octets entries tail
  pub each : EachExpands (Opening files) h entries tail written ending

-- before the first entry of the main file, of which the entries of these lines are taken out
abbrev pub first_without : List ℕ → Option (List ℕ) → List ℕ → Labels → Holds
first_without lines directory name origin = record {
  origin = origin;
  owner = None;
  stated = None;
  directory = directory;
  open_files = name ∷ [];
  opened = 0;
  line = 1;
  taken_out = lines;
}

-- of which none is taken out
abbrev pub at_first : Option (List ℕ) → List ℕ → Labels → Holds
at_first = first_without []

-- a fault ends the text with a line by which it denotes no zone
abbrev pub last_line : Ending → List ℕ
last_line (stops fault) = codes "$STOPPED" ++ 10 ∷ []
last_line (stops_at value) = codes "$STOPPED" ++ 10 ∷ []
last_line ending = []

-- The expanded text of a main file, of which the entries of these lines are taken out, and how it
-- ends
pub record IsExpandedWithout (lines : List ℕ) (directory : Option (List ℕ)) (name : List ℕ)
    (origin : Labels) (octets : List ℕ) (files : Files) (expanded : List ℕ)
    (ending : Ending) : Type 0 where
  pub written : List ℕ
  pub expands : Expands (first_without lines directory name origin) octets files written ending
  pub expanded_is : expanded ≡ written ++ last_line ending

-- the expanded text of a main file, and how it ends
abbrev pub IsExpanded : Option (List ℕ) → List ℕ → Labels → List ℕ → Files → List ℕ → Ending → Type 0
IsExpanded = IsExpandedWithout []

-- an entry that isn't expanded: neither `$INCLUDE` nor `$GENERATE`
abbrev pub IsPlain : List Token → Type 0
IsPlain entry =
    (statement_of (entry_of 1 entry) ≡ includes → ⊥)
    × (statement_of (entry_of 1 entry) ≡ unknown → says_generate (flat_map item_of entry) ≡ false)

-- each entry of the octets is one that isn't expanded
abbrev pub HasPlainEntries : List ℕ → Type 0
HasPlainEntries octets =
    (entries : List (List Token)) (tail : Option (List ℕ)) → IsFile octets entries tail
    → AllByRecursion IsPlain entries
