-- From what a filter holds and what was written to what is left.
pub use Rattle.words_command.proofs.Common.{◌≡◌, ◌∙◌, Bool, false, true, None, Some, ℕ, List, [], ◌++◌, length, refl, sym, subst, ap, arith, Result, IfErr, OnErr, IfOk}
pub use Rattle.std.proofs.Common.{append-nil, append_assoc, ◌-◌, ◌+◌, ◌^◌}
pub use Rattle.std.proofs.KnownBytes.{Appends-trans, Consumes-kept, Consumes-trans}
pub use Rattle.std.specs.Io.KnownBytes.{Appends, Consumes, IsAtEnd, Keeps}
pub use Rattle.std.specs.Prelude.{OnOk, ◌<◌, ◌≤◌, ◌∷◌, ◌==◌, not, slice_get}
pub use Rattle.zone_rdata.specs.declared.fault.Stop.{Stop}
pub use Rattle.zone_print.specs.Device.{Device, Fails, WorksOn}
pub use Rattle.zone_print.specs.Writing.{AppendsPart, IsFailedWrite}
pub use Rattle.zone_engine.specs.Reading.{IsFailedRead}
pub use Rattle.zone_engine.proofs.Lines.{part_then}
pub use Rattle.zone_words.specs.Stopped.{ends_inside, inside_after}
pub use Rattle.words_command.specs.Machine.Halting.{IfWriterWorks, IsHalted}
use Rattle.words_command.specs.Machine.Halting as halts
pub use Rattle.words_command.specs.Filtering.{EndsReading, EndsWith, Filtering, IsSoFarInPart, IsStopped, IsWrittenFor, IsWrittenWhole, most_octets}
use Rattle.words_command.specs.Filtering as runs
pub use Rattle.words_command.specs.declared.failure.Failure.{Failure}
pub use Rattle.words_command.specs.declared.failure.Failure.TheVariants.{Read, Write, Memory}

-- a read that failed
pub failed_read : (old new : Device) (stop : Stop) → IsFailedRead old new stop → Fails old new
failed_read old new stop h = grind arith

-- a text and a last line that were written as far as the writer took them
pub ended : {T : Type 0} (last text : List ℕ) (old new : Device) (r : Result T Stop) → OnOk r (Appends old.octets new.octets (text ++ last)) → OnErr r (AppendsPart old.octets new.octets (text ++ last)) → OnOk r (WorksOn old new) → IfErr r (IsFailedWrite old new) → EndsWith last text old new
ended last text old new r whole part works failed = grind (arith, runs.whole, runs.part)

-- the same after what was written before
pub ends_after : (last given text : List ℕ) (old mid new : Device) → Appends old.octets mid.octets given → WorksOn old mid → EndsWith last text mid new → EndsWith last (given ++ text) old new
ends_after last given text old mid new written works (runs.whole h on) =
    runs.whole (rw (append_assoc given text last) (Appends-trans old.octets mid.octets new.octets given (text ++ last) written h)) (λ w. on (works w))
ends_after last given text old mid new written works (runs.part h fails) =
    runs.part (rw (append_assoc given text last) (part_then old.octets mid.octets new.octets given given (text ++ last) refl written h)) (λ w. fails (works w))

-- whether a text ends inside a line, where more follows it
pub inside_append : (inside : Bool) (text more : List ℕ) → inside_after inside (text ++ more) ≡ inside_after (inside_after inside text) more
inside_append inside [] more = refl
inside_append inside (octet ∷ text) more = inside_append (not (octet == 10)) text more

pub inside_grown : (inside after : Bool) (text more : List ℕ) → inside ≡ ends_inside text → after ≡ inside_after inside more → after ≡ ends_inside (text ++ more)
inside_grown inside after text more is grown = grown ∙ ap (λ b. inside_after b more) is ∙ sym (inside_append false text more)

-- its last octet says so
pub inside_by_last : (inside : Bool) (octet : ℕ) (text : List ℕ) (last : ℕ) → slice_get (octet ∷ text) (length text) ≡ Some last → inside_after inside (octet ∷ text) ≡ not (last == 10)
inside_by_last inside octet [] last is = grind arith
inside_by_last inside octet (next ∷ text) last is = inside_by_last (not (octet == 10)) next text last is

module _ (filter : Filtering) (last : List ℕ → List ℕ) (held : List ℕ) (inside : Bool) (input input' output output' : Device) where
  -- after a failure, what is held and the last line that what was written by then gets
  pub halted_works : (failure : Failure) (line : List ℕ) (new : Device) → ((given : List ℕ) → inside ≡ ends_inside given → line ≡ last (given ++ held)) → IsHalted filter held inside input input' output output' failure → IfWriterWorks failure (EndsWith line held output' new) → (failure ≡ Write → IsStopped filter last input input' output new Write) → IsStopped filter last input input' output new failure
  halted_works _ line new fits (halts.unread octets given read so_far written ends_so works ends) e left =
      runs.unread octets _ read so_far (subst (λ l. EndsWith l (given ++ held) output new) (fits given ends_so) (ends_after line given _ output output' new written works e)) ends
  halted_works _ line new fits (halts.out_of_memory octets given read part written ends_so works on) e left =
      runs.out_of_memory octets _ read part (subst (λ l. EndsWith l (given ++ held) output new) (fits given ends_so) (ends_after line given _ output output' new written works e)) on
  halted_works _ line new fits (halts.unwritten octets text read is part fails on) e left = left refl

  pub halted_writing : IsHalted filter held inside input input' output output' Write → IsStopped filter last input input' output output' Write
  halted_writing (halts.unwritten octets text read is part fails on) = runs.unwritten octets text read is part fails on

-- the same with a last line that is the same for each text
pub stopped_alike : (filter : Filtering) (last last' : List ℕ → List ℕ) (input input' output output' : Device) (failure : Failure) → ((text : List ℕ) → last text ≡ last' text) → IsStopped filter last input input' output output' failure → IsStopped filter last' input input' output output' failure
stopped_alike filter last last' input input' output output' _ same (runs.unread octets text read so_far e ends) = runs.unread octets text read so_far (subst (λ l. EndsWith l text output output') (same text) e) ends
stopped_alike filter last last' input input' output output' _ same (runs.out_of_memory octets text read part e on) = runs.out_of_memory octets text read part (subst (λ l. EndsWith l text output output') (same text) e) on
stopped_alike filter last last' input input' output output' _ same (runs.unwritten octets text read is part fails on) = runs.unwritten octets text read is part fails on
