-- Why files are read no further.
use Rattle.std.proofs.Common.{◌≡◌, ℕ, ◌≤◌, ◌<◌, ◌⊎◌, inl, inr, List, Option, Some, None, refl, sym, ap, subst, ◌∙◌, length}
use Rattle.std.specs.Prelude.{Err, IfErr, Ok, OnOk, Result, option_map}
use Rattle.zone_print.specs.Canonical.{text_limit}
use Rattle.zone_print.specs.Device.{Device}
use Rattle.zone_files.specs.Expansion.{Holds}
use Rattle.zone_files.specs.FileExpander.{NamedFile, StandsBy}
use Rattle.zone_files.specs.FilesStopped.{EndsReading, HasEnded, IsReadNoFurther, IsReadSoFar, has_ended, long_file, not_opened, not_read, too_many}
use Rattle.zone_files.specs.IncludeStack.{wanted_by, wanted_name}
use Rattle.zone_files.specs.Machine.OpenReading.{IsReading, StopsInnermost, StopsReading}
use Rattle.zone_files.specs.declared.expansion.progress.FileStatus.TheVariants as statuses
use Rattle.zone_files.specs.declared.files.files_reader.FilesReader.{FilesReader}
use Rattle.zone_files.specs.declared.files.files_reader.ReadingStop.{ReadingStop}
use Rattle.zone_files.specs.declared.files.files_reader.ReadingStop.TheVariants as reading
use Rattle.zone_files.proofs.FilesReading.{innermost_of, reads_no_further, text_too_long}

pub if_err_by : {T E : Type 0} (P Q : E → Type 0) (r : Result T E) → ((e : E) → P e → Q e) → IfErr r P → IfErr r Q
if_err_by P Q (Ok x) f p = tt
if_err_by P Q (Err e) f p = f e p

pub on_ok_four : {T E P Q R O U : Type 0} (r : Result T E) → (P → Q → R → O → U) → OnOk r P → OnOk r Q → OnOk r R → OnOk r O → OnOk r U
on_ok_four (Ok x) f p q u v = f p q u v
on_ok_four (Err e) f p q u v = tt

module _ {S F : Type 0} (Opens : S → List ℕ → Option F → S → Type 0) (state : F → Device) (main : F) (first : Holds) (start : S) (text : List ℕ) where
  no_further : (reader : FilesReader F) (before now : S) (was : IsReading Opens state main first start reader before text) → EndsReading Opens state main was.opened reader.stack before now → IsReadNoFurther Opens state main first start now reader.stack text
  no_further reader before now was why = reads_no_further Opens state main first start before text reader was now why

  -- another state of the reader, with the same files open
  as_stack : (old new : FilesReader F) (now : S) → new.stack ≡ old.stack → IsReadNoFurther Opens state main first start now old.stack text → StopsReading Opens state main first start now new text reading.Unread
  as_stack old new now same read = subst (λ s. IsReadNoFurther Opens state main first start now s text) (sym same) read

  pub stops_innermost : (old new : FilesReader F) (now : S) (stop : ReadingStop) → StopsInnermost state old new stop → IsReading Opens state main first start old now text → StopsReading Opens state main first start now new text stop
  stops_innermost old new now reading.Unread (same, fails) was =
      let (reader, is, given) = innermost_of state main old.is_cut old.«open».innermost _ was.stands.fed.innermost was.stands.fed.outer was.opened was.stands.given in
      as_stack old new now same (no_further old now now was (not_read reader new.«open».innermost.reader is (fails reader was.stands.fed.innermost.octets given) refl))
  stops_innermost old new now reading.TooLong fails was =
      let (reader, is, given) = innermost_of state main old.is_cut old.«open».innermost _ was.stands.fed.innermost was.stands.fed.outer was.opened was.stands.given in
      let long = fails reader was.stands.fed.innermost.octets given in
      long_file was.opened reader new.«open».innermost.reader long.0 was.opens is long.1 long.2
  stops_innermost old new now reading.Memory fails was = tt

  pub stops_memory : (new : FilesReader F) (now : S) (stop : ReadingStop) → stop ≡ reading.Memory → StopsReading Opens state main first start now new text stop
  stops_memory new now stop is = subst (StopsReading Opens state main first start now new text) (sym is) tt

  -- the expanded text is too long
  pub stops_long : (reader : FilesReader F) (now : S) (stop : ReadingStop) → (stop ≡ reading.TooLong) × (text_limit < reader.expanded) → IsReading Opens state main first start reader now text → (other : List ℕ) → StopsReading Opens state main first start now reader other stop
  stops_long reader now stop (is, over) was other = subst (StopsReading Opens state main first start now reader other) (sym is) (text_too_long Opens state main first start now text reader was over)

  pub stops_ended : (reader : FilesReader F) (now : S) → HasEnded reader.stack.innermost.status → IsReading Opens state main first start reader now text → StopsReading Opens state main first start now reader text reading.Unread
  stops_ended reader now ended was = no_further reader now now was (has_ended ended refl)

  pub stops_unopened : (reader : FilesReader F) (before now : S) (name : List ℕ) → wanted_name reader.stack ≡ Some name → Opens before name None now → IsReading Opens state main first start reader before text → StopsReading Opens state main first start now reader text reading.Unread
  stops_unopened reader before now name wanted opens was = no_further reader before now was (not_opened name wanted opens)

  pub stops_many : (reader : FilesReader F) (now : S) → (10000 ≤ reader.included) ⊎ (10000 ≤ reader.stack.innermost.holds.opened) → IsReading Opens state main first start reader now text → StopsReading Opens state main first start now reader text reading.Unread
  stops_many reader now (inl many) was = no_further reader now now was (too_many (inl (subst (λ n. 10000 ≤ n) was.counted many)) refl)
  stops_many reader now (inr many) was = no_further reader now now was (too_many (inr many) refl)

  -- where an `$INCLUDE` was met a file is wanted
  pub never_unwanted : (reader : FilesReader F) (now : S) → reader.stack.innermost.status ≡ statuses.Including → wanted_name reader.stack ≡ None → IsReading Opens state main first start reader now text → ⊥
  never_unwanted reader now including none was =
      let s = reader.stack.innermost in
      let stand = was.stands.stands.stand in
      let (named, is, awaits) = subst (λ status. StandsBy status s stand.start was.stands.fed.innermost.octets was.stands.fed.innermost.files stand.own) including stand.innermost in
      let wanted : wanted_name reader.stack ≡ Some named.name = ap (λ status. wanted_by status s) including ∙ ap (λ o. option_map (λ (n : NamedFile). n.name) o) is in
      let no_way : None ≡ Some named.name = sym none ∙ wanted in
      absurd (cc)
