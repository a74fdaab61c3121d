-- Files whose expanded text is written: what is left where it stops.
use Rattle.std.proofs.Common.{◌≡◌, ◌≢◌, ℕ, ◌⊎◌, inl, inr, List, [], ◌∷◌, ◌++◌, Option, Some, refl, sym, ap, subst, ◌∙◌, append_assoc, append-nil}
use Rattle.std.proofs.KnownBytes.{Appends-trans}
use Rattle.std.specs.Io.KnownBytes.{Appends}
use Rattle.std.specs.Prelude.{Err, IfErr, Ok, OnErr, OnOk, Result}
use Rattle.zone_name.specs.Common.{Labels}
use Rattle.zone_print.specs.Device.{Device, Fails, WorksOn}
use Rattle.zone_print.specs.Writing.{AppendsPart, IsFailedWrite}
use Rattle.zone_rdata.specs.declared.fault.Stop.{Stop}
use Rattle.zone_rdata.specs.declared.fault.Stop.TheVariants as stop
use Rattle.zone_files.specs.Expansion.{Holds, at_first}
use Rattle.zone_files.specs.ExpandedLoader.{stopped}
use Rattle.zone_files.specs.FilesStopped.{FailsWriting, HasEnded, IsBehind, IsReadNoFurther, IsStopLine, StopsExpanding, WritesInPart}
use Rattle.zone_files.specs.IncludeStack.{StackState}
use Rattle.zone_files.specs.Machine.OpenReading.{IsReading, IsStopAs, StopsAs, StopsReading, StopsWrites, WritesFiles}
use Rattle.zone_files.specs.declared.expansion.progress.FileStatus.{FileStatus}
use Rattle.zone_files.specs.declared.files.expanded_files.WritingStop.{WritingStop}
use Rattle.zone_files.specs.declared.files.expanded_files.WritingStop.TheVariants.{Reading, Write}
use Rattle.zone_files.specs.declared.files.files_reader.FilesReader.{FilesReader}
use Rattle.zone_files.specs.declared.files.files_reader.ReadingStop.{ReadingStop}
use Rattle.zone_files.specs.declared.files.files_reader.ReadingStop.TheVariants as reading
use Rattle.zone_files.specs.declared.files.stop.FilesStop.{FilesStop}
use Rattle.zone_files.specs.declared.files.stop.FilesStop.TheVariants.{Files as of_files, Input}
use Rattle.zone_files.specs.declared.stack.expanded_loader.ExpandedRefusal.{ExpandedRefusal}
use Rattle.zone_files.specs.declared.stack.expanded_loader.ExpandedRefusal.TheVariants.{Expansion, Text, Unread}
use Rattle.zone_files.proofs.FilesReading.{reads_so_far}

part_behind : (before mid after : Option (List ℕ)) (text made : List ℕ) → Appends before mid text → AppendsPart mid after made → AppendsPart before after (text ++ made)
part_behind before mid after text made written (front, rest, some, is, part) =
    (text ++ front, rest, some, ap (λ l. text ++ l) is ∙ sym (append_assoc text front rest), Appends-trans before mid after text front written part)

pub failed_write : (old new : Device) (why : Stop) → IsFailedWrite old new why → Fails old new
failed_write old new (stop.Refused fault place) failed = absurd failed
failed_write old new stop.Read failed = absurd failed
failed_write old new stop.Write failed = failed
failed_write old new stop.Memory failed = absurd failed

module _ {S F : Type 0} (Opens : S → List ℕ → Option F → S → Type 0) (state : F → Device) (main : F) (first : Holds) (start : S) (before : Device) where
  pub at_writing_stop : (reader : FilesReader F) (now : S) (after : Device) (why other : WritingStop) → why ≡ other → StopsWrites Opens state main first start reader now before after why → StopsWrites Opens state main first start reader now before after other
  at_writing_stop reader now after why other is stops = subst (StopsWrites Opens state main first start reader now before after) is stops

  -- the files are read no further
  pub stops_writes : (old new : FilesReader F) (was now : S) (mid : Device) (why : ReadingStop) → ((text : List ℕ) → IsReading Opens state main first start old was text → StopsReading Opens state main first start now new text why) → WritesFiles Opens state main first start before old was mid → StopsWrites Opens state main first start new now before mid (Reading why)
  stops_writes old new was now mid reading.Unread stops writes = (writes.text, stops writes.text writes.reads, writes.written, writes.works)
  stops_writes old new was now mid reading.TooLong stops writes = stops writes.text writes.reads
  stops_writes old new was now mid reading.Memory stops writes = tt

  -- the writer failed
  pub fails_writing : (old new : FilesReader F) (was now : S) (mid after : Device) → ((text : List ℕ) → IsReading Opens state main first start old was text → IsReading Opens state main first start new now (text ++ new.text.items)) → AppendsPart mid.octets after.octets new.text.items → Fails mid after → WritesFiles Opens state main first start before old was mid → StopsWrites Opens state main first start new now before after Write
  fails_writing old new was now mid after reads part fails writes = record {
    stack = new.stack;
    text = writes.text ++ new.text.items;
    read = reads_so_far Opens state main first start now (writes.text ++ new.text.items) new (reads writes.text writes.reads);
    written = part_behind before.octets mid.octets after.octets writes.text new.text.items writes.written part;
    fails = λ worked. fails (writes.works worked);
  }

-- ---- what is answered

-- the line `$STOPPED`, or a part of it if the writer failed
abbrev pub StopLineWritten : Device → Device → Type 0
StopLineWritten mid after =
    (front : List ℕ) × Appends mid.octets after.octets front
    × (IsStopLine front ⊎ ((rest : List ℕ) × IsStopLine (front ++ rest) × Fails mid after))

behind_by : (before mid after : Device) (front : List ℕ) → WorksOn before mid → IsStopLine front ⊎ ((rest : List ℕ) × IsStopLine (front ++ rest) × Fails mid after) → IsBehind Unread front (Fails before after)
behind_by before mid after front works (inl line) = inl line
behind_by before mid after front works (inr (rest, line, fails)) = inr (rest, line, λ worked. fails (works worked))

module _ {S F : Type 0} (Opens : S → List ℕ → Option F → S → Type 0) (state : F → Device) (main : F) (directory : Option (List ℕ)) (name : List ℕ) (origin : Labels) (start now : S) (before after : Device) where
  -- a fault has ended the text
  pub ended_stops : (stack : StackState) (text : List ℕ) (why : FilesStop) → IsReadNoFurther Opens state main (at_first directory name origin) start now stack text → Appends before.octets after.octets text → StopsAs stack why → StopsExpanding Opens state main directory name origin start now before after why
  ended_stops stack text (of_files Unread given) read written never = absurd never
  ended_stops stack text (of_files (Text refusal) given) read written never = absurd never
  ended_stops stack text (of_files (Expansion fault) given) read written (same, is) =
      subst (λ s. WritesInPart Opens state main (at_first directory name origin) start now before after (Expansion fault) s) (sym same) (record {
        text = text;
        read = read;
        why = is;
        front = [];
        behind = refl;
        written = subst (Appends before.octets after.octets) (sym (append-nil text)) written;
      })
  ended_stops stack text (Input why) read written never = absurd never

  -- a file wasn't read, and the text is ended as far as the writer takes it
  pub unread_stops : (stack : StackState) (text : List ℕ) (mid : Device) → IsReadNoFurther Opens state main (at_first directory name origin) start now stack text → Appends before.octets mid.octets text → WorksOn before mid → StopLineWritten mid after → StopsExpanding Opens state main directory name origin start now before after (of_files Unread stack)
  unread_stops stack text mid read written works (front, more, behind) = record {
    text = text;
    read = read;
    why = tt;
    front = front;
    behind = behind_by before mid after front works behind;
    written = Appends-trans before.octets mid.octets after.octets text front written more;
  }

  -- by why the files are read no further
  pub reading_stops : (reader : FilesReader F) (mid : Device) (why : ReadingStop) (answer : FilesStop) → IsStopAs reader.stack why answer → StopsWrites Opens state main (at_first directory name origin) start reader now before mid (Reading why) → StopLineWritten mid after → StopsExpanding Opens state main directory name origin start now before after answer
  reading_stops reader mid reading.Unread answer is (text, read, written, works) behind =
      subst (StopsExpanding Opens state main directory name origin start now before after) (sym is) (unread_stops reader.stack text mid read written works behind)
  reading_stops reader mid reading.TooLong answer is long behind =
      subst (StopsExpanding Opens state main directory name origin start now before after) (sym is) (refl, refl, long)
  reading_stops reader mid reading.Memory answer is none behind =
      subst (StopsExpanding Opens state main directory name origin start now before after) (sym is) tt

-- a line, or a part of it
pub line_written : {T : Type 0} (r : Result T Stop) (old new : Device) (line : List ℕ) → IsStopLine line → OnOk r (Appends old.octets new.octets line) → OnErr r (AppendsPart old.octets new.octets line) → IfErr r (IsFailedWrite old new) → StopLineWritten old new
line_written (Ok x) old new line is written part failed = (line, written, inl is)
line_written (Err why) old new line is written (front, rest, some, whole, part) failed = (front, part, inr (rest, subst IsStopLine whole is, failed_write old new why failed))
