-- The files that are open while files are read, and what their readers gave.
use Rattle.std.specs.Prelude.{◌≡◌, ℕ, ◌+◌, ◌-◌, ◌^◌, ◌<◌, ◌≤◌, List, [], ◌∷◌, ◌++◌, length, min, reverse, Bool, true, false, Option, Some}
use Rattle.std.specs.Io.KnownBytes.{Appends, Consumes, IsAtEnd}
use Rattle.zone_print.specs.Canonical.{text_limit}
use Rattle.zone_print.specs.Device.{Device, Fails, WorksOn}
use Rattle.zone_name.specs.Common.{Labels}
use Rattle.zone_rdata.specs.declared.fault.Fault.TheVariants.{InputTooLong}
use Rattle.zone_rdata.specs.declared.fault.Place.TheVariants.{Whole}
use Rattle.zone_rdata.specs.declared.fault.Stop.TheVariants.{Memory, Refused}
use Rattle.zone_set.specs.Zone.{Zone}
use Rattle.zone_files.specs.Expansion.{Files, Holds}
use Rattle.zone_files.specs.ExpandedLoader.{FilesDenote, RefusesFor, fault_of}
use Rattle.zone_files.specs.IncludeStack.{FedFile, FedFiles, StackState, StandsForFiles, fed_ended}
use Rattle.zone_files.specs.Loading.Fed.{LoadingState, StandsForPresentation}
use Rattle.zone_files.specs.FilesStopped.{FailsWriting, IsReadNoFurther, IsTooLong}
use Rattle.zone_files.specs.Reading.{AreWithinLimit, Begins, EachFile, Has, OpenedFile, OpensEach, octets_in}
use Rattle.zone_files.specs.declared.files.files_reader.ReadingStop.{ReadingStop}
use Rattle.zone_files.specs.declared.files.files_reader.ReadingStop.TheVariants as reading
use Rattle.zone_files.specs.declared.files.expanded_files.WritingStop.{WritingStop}
use Rattle.zone_files.specs.declared.files.expanded_files.WritingStop.TheVariants.{Reading, Write}
use Rattle.zone_files.specs.declared.files.files_reader.FilesReader.{FilesReader}
use Rattle.zone_files.specs.declared.files.open_file.FileStop.{FileStop}
use Rattle.zone_files.specs.declared.files.open_file.FileStop.TheVariants.{TooLong, Unread}
use Rattle.zone_files.specs.declared.files.open_file.OpenFile.{OpenFile}
use Rattle.zone_files.specs.declared.files.open_files.OpenFiles.{OpenFiles}
use Rattle.zone_files.specs.declared.files.stop.FilesStop.{FilesStop}
use Rattle.zone_files.specs.declared.files.stop.FilesStop.TheVariants.{Files as of_files, Input}
use Rattle.zone_files.specs.declared.stack.expanded_loader.ExpandedRefusal.TheVariants as refusals

-- the reader of a file of which nothing was read
pub record IsNew {F : Type 0} (reader : F) (o : OpenFile F) : Type 0 where
  pub same : o.reader ≡ reader
  pub none : o.piece ≡ []
  pub nothing : o.count ≡ 0
  pub unended : o.is_at_end ≡ false

-- the innermost file was closed, if another one waits for it
pub data ClosesFile {F : Type 0} (old new : OpenFiles F) : Type 0 where
  main_file : old.outer.items ≡ [] → ClosesFile old new
  another : old.outer.items ≡ new.outer.items ++ new.innermost ∷ [] → ClosesFile old new

module _ {F : Type 0} where
  -- Of the files that were opened this one is open, and those after it were closed. Each reader gave
  -- the octets of its file, by two relations.
  pub record IsOpened (Open : F → OpenFile F → List ℕ → Type 0) (Closed : F → List ℕ → Type 0)
      (o : OpenFile F) (fed : FedFile) (opened : List (OpenedFile F)) : Type 0 where
    pub earlier : List (OpenedFile F)
    pub it : OpenedFile F
    pub closed : List (OpenedFile F)
    pub opened_is : opened ≡ earlier ++ it ∷ closed
    pub given : Open it.reader o fed.octets
    pub gave : EachFile Closed closed (octets_in fed.files)

  -- the files that are open, the innermost first, and all that were opened in their order
  abbrev pub AllOpened : (F → OpenFile F → List ℕ → Type 0) → (F → List ℕ → Type 0) → F
      → OpenFile F → List (OpenFile F) → FedFile → List FedFile → List (OpenedFile F) → Type 0
  AllOpened Open Closed main o [] fed [] opened =
      Open main o fed.octets × EachFile Closed opened (octets_in fed.files)
  AllOpened Open Closed main o [] fed (other ∷ others) opened = ⊥
  AllOpened Open Closed main o (above ∷ outer) fed [] opened = ⊥
  AllOpened Open Closed main o (above ∷ outer) fed (other ∷ others) opened =
      (inner : IsOpened Open Closed o fed opened)
      × AllOpened Open Closed main above outer other others inner.earlier

module _ {F : Type 0} (state : F → Device) where
  -- The reader gave the octets of the file that were taken and those that are left, and didn't fail.
  pub record HasGiven (reader : F) (o : OpenFile F) (taken : List ℕ) : Type 0 where
    pub consumed : Consumes (state reader).octets (state o.reader).octets (taken ++ o.piece)
    pub works : WorksOn (state reader) (state o.reader)
    pub counted : o.count ≡ length (taken ++ o.piece)
    pub short : o.count ≤ text_limit
    pub ended : o.is_at_end ≡ true → IsAtEnd (state o.reader).octets × (o.piece ≡ [])

  -- why no more of a file is read: its reader failed, or it has too many octets
  abbrev pub StopsFile : F → OpenFile F → FileStop → Type 0
  StopsFile reader o Unread = Fails (state reader) (state o.reader)
  StopsFile reader o TooLong = (given : List ℕ) × (text_limit < length given)
      × Consumes (state reader).octets (state o.reader).octets given

  -- a file that was closed gave all that its reader had to give, within the limit, or a part of it
  abbrev pub Gave : Bool → F → List ℕ → Type 0
  Gave false reader octets = Has state reader octets × (length octets ≤ text_limit)
  Gave true reader octets = Begins state reader octets

  module _ (main : F) where
    -- what was fed of each file that is open is what its reader gave, and of each that was closed all
    -- that its reader had to give, unless one was cut off
    abbrev pub AllGiven : Bool → OpenFile F → List (OpenFile F) → FedFile → List FedFile → List (OpenedFile F) → Type 0
    AllGiven cut = AllOpened HasGiven (Gave cut) main

    -- The stack stands for what the readers gave, after so many of the innermost files have ended
    -- that are still open.
    pub record StandsAfter (ended : ℕ) (first : Holds) (reader : FilesReader F)
        (opened : List (OpenedFile F)) (text : List ℕ) : Type 0 where
      pub fed : FedFiles
      pub stands : StandsForFiles reader.stack first (fed_ended ended fed) text
      pub given : AllGiven reader.is_cut reader.«open».innermost (reverse reader.«open».outer.items) fed.innermost fed.outer opened
      pub outer : length reader.«open».outer.items ≡ ended + length reader.stack.outer

    -- the stack stands for what the readers of these files gave, and gave this text
    abbrev pub StandsForRead : Holds → FilesReader F → List (OpenedFile F) → List ℕ → Type 0
    StandsForRead = StandsAfter 0

    -- the files were read on, and this is what was expanded
    abbrev pub ReadsOn : FilesReader F → FilesReader F → Type 0
    ReadsOn old new = (first : Holds) (opened : List (OpenedFile F)) (text : List ℕ)
        → StandsForRead first old opened text → StandsForRead first new opened (text ++ new.text.items)

  -- why the innermost file isn't read on
  abbrev pub StopsInnermost : FilesReader F → FilesReader F → ReadingStop → Type 0
  StopsInnermost old new reading.Unread =
      (new.stack ≡ old.stack) × ((reader : F) (taken : List ℕ)
      → HasGiven reader old.«open».innermost taken → StopsFile reader new.«open».innermost Unread)
  StopsInnermost old new reading.TooLong =
      (reader : F) (taken : List ℕ)
      → HasGiven reader old.«open».innermost taken → StopsFile reader new.«open».innermost TooLong
  StopsInnermost old new reading.Memory = Unit {0}

-- the files were read so far, from the one state of what opens them to the other
pub record IsReading {S F : Type 0} (Opens : S → List ℕ → Option F → S → Type 0)
    (state : F → Device) (main : F) (first : Holds) (old : S) (reader : FilesReader F) (now : S)
    (text : List ℕ) : Type 0 where
  pub opened : List (OpenedFile F)
  pub opens : OpensEach Opens old opened now
  pub stands : StandsForRead state main first reader opened text
  pub counted : reader.included ≡ length opened
  pub few : length opened ≤ 10000
  pub long : reader.expanded ≡ min (length text) (2 ^ 64 - 1)

-- they were read on by a step, whose text isn't counted yet
pub record ReadsStep {S F : Type 0} (Opens : S → List ℕ → Option F → S → Type 0)
    (state : F → Device) (main : F) (first : Holds) (old : S) (reader : FilesReader F) (now : S)
    (text : List ℕ) : Type 0 where
  pub opened : List (OpenedFile F)
  pub opens : OpensEach Opens old opened now
  pub stands : StandsForRead state main first reader opened (text ++ reader.text.items)
  pub counted : reader.included ≡ length opened
  pub few : length opened ≤ 10000
  pub long : reader.expanded ≡ min (length text) (2 ^ 64 - 1)

-- the files are read no further
abbrev pub StopsReading : {S F : Type 0} → (S → List ℕ → Option F → S → Type 0) → (F → Device) → F
    → Holds → S → S → FilesReader F → List ℕ → ReadingStop → Type 0
StopsReading Opens state main first old now reader text reading.Unread =
    IsReadNoFurther Opens state main first old now reader.stack text
StopsReading Opens state main first old now reader text reading.TooLong =
    IsTooLong Opens state main first old now
StopsReading Opens state main first old now reader text reading.Memory = Unit {0}

-- the files were read so far, and their text was loaded
pub record LoadsFiles {S F : Type 0} (Opens : S → List ℕ → Option F → S → Type 0)
    (state : F → Device) (main : F) (first : Holds) (old : S) (origin : Labels)
    (reader : FilesReader F) (now : S) (loader : LoadingState) : Type 0 where
  pub text : List ℕ
  pub reads : IsReading Opens state main first old reader now text
  pub loads : StandsForPresentation origin loader text

-- the files are read no further, and what was read was loaded
abbrev pub StopsLoads : {S F : Type 0} → (S → List ℕ → Option F → S → Type 0) → (F → Device) → F
    → Holds → S → Labels → FilesReader F → S → LoadingState → ReadingStop → Type 0
StopsLoads Opens state main first old origin reader now loader reading.Unread =
    (text : List ℕ) × IsReadNoFurther Opens state main first old now reader.stack text
    × StandsForPresentation origin loader text
StopsLoads Opens state main first old origin reader now loader reading.TooLong =
    IsTooLong Opens state main first old now
StopsLoads Opens state main first old origin reader now loader reading.Memory = Unit {0}

-- a refusal of what the stack stands for
abbrev pub IsRefusedAs : StackState → Labels → List ℕ → FilesStop → Type 0
IsRefusedAs stack origin text (of_files refusal given) =
    (given ≡ stack) × RefusesFor refusal stack origin text
IsRefusedAs stack origin text (Input stop) = ⊥

-- the main file and these files, each read to its end, denote a zone
pub record AreZone {F : Type 0} (state : F → Device) (main : F) (opened : List (OpenedFile F))
    (directory : Option (List ℕ)) (name : List ℕ) (origin : Labels) (z : Zone) : Type 0 where
  pub octets : List ℕ
  pub files : Files
  pub main_has : Has state main octets
  pub each : EachFile (Has state) opened (octets_in files)
  pub within : AreWithinLimit octets files
  pub denotes : FilesDenote directory name origin octets files z

-- the files were read so far, and their text was written
pub record WritesFiles {S F : Type 0} (Opens : S → List ℕ → Option F → S → Type 0)
    (state : F → Device) (main : F) (first : Holds) (old : S) (before : Device)
    (reader : FilesReader F) (now : S) (after : Device) : Type 0 where
  pub text : List ℕ
  pub reads : IsReading Opens state main first old reader now text
  pub written : Appends before.octets after.octets text
  pub works : WorksOn before after

-- the files are read no further, and what was read was written
abbrev pub StopsWrites : {S F : Type 0} → (S → List ℕ → Option F → S → Type 0) → (F → Device) → F
    → Holds → S → FilesReader F → S → Device → Device → WritingStop → Type 0
StopsWrites Opens state main first old reader now before after (Reading reading.Unread) =
    (text : List ℕ) × IsReadNoFurther Opens state main first old now reader.stack text
    × Appends before.octets after.octets text × WorksOn before after
StopsWrites Opens state main first old reader now before after (Reading reading.TooLong) =
    IsTooLong Opens state main first old now
StopsWrites Opens state main first old reader now before after (Reading reading.Memory) = Unit {0}
StopsWrites Opens state main first old reader now before after Write =
    FailsWriting Opens state main first old now before after

-- how a reading that stops is reported
abbrev pub IsStopAs : StackState → ReadingStop → FilesStop → Type 0
IsStopAs stack reading.Unread reported = reported ≡ of_files refusals.Unread stack
IsStopAs stack reading.TooLong reported = reported ≡ Input (Refused InputTooLong Whole)
IsStopAs stack reading.Memory reported = reported ≡ Input Memory

-- how a text that has ended with a fault is reported
abbrev pub StopsAs : StackState → FilesStop → Type 0
StopsAs stack (of_files (refusals.Expansion fault) given) =
    (given ≡ stack) × (fault_of stack.innermost.status ≡ Some fault)
StopsAs stack (of_files refusal given) = ⊥
StopsAs stack (Input stop) = ⊥
