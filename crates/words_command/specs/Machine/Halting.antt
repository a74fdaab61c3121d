-- How far the passing of a text through a filter has come, with what was read and written.
use Rattle.std.specs.Prelude.{◌≡◌, ℕ, Bool, if◌then◌else◌, List, ◌++◌, ⊤}
use Rattle.std.specs.Io.KnownBytes.{Appends, Consumes}
use Rattle.zone_print.specs.Device.{Device, WorksOn, Fails}
use Rattle.zone_print.specs.Writing.{AppendsPart}
use Rattle.zone_words.specs.Stopped.{ends_inside}
use Rattle.words_command.specs.Filtering.{EndsReading, Filtering, IsSoFarInPart, IsWrittenFor}
use Rattle.words_command.specs.declared.last_line.LastLine.{LastLine}
use Rattle.words_command.specs.declared.failure.Failure.{Failure}
use Rattle.words_command.specs.declared.failure.Failure.TheVariants.{Read, Write, Memory}

-- what ends a text that isn't whole, by whether it ends inside a line
abbrev pub closing : LastLine → List ℕ → List ℕ
closing last text = if ends_inside text then last.inside_line.now else last.after_line.now

-- A failure, with what was read and written before it. Where the writer works, it is known whether
-- that ends inside a line, and what the filter holds is still to be written.
pub data IsHalted (filter : Filtering) (held : List ℕ) (inside : Bool)
    (input input' output output' : Device) : Failure → Type 0 where
  unread : (octets given : List ℕ) → Consumes input.octets input'.octets octets
      → filter.SoFar octets (given ++ held) → Appends output.octets output'.octets given
      → inside ≡ ends_inside given
      → WorksOn output output' → EndsReading octets input input'
      → IsHalted filter held inside input input' output output' Read
  out_of_memory : (octets given : List ℕ) → Consumes input.octets input'.octets octets
      → IsSoFarInPart filter.SoFar octets (given ++ held)
      → Appends output.octets output'.octets given → inside ≡ ends_inside given
      → WorksOn output output' → WorksOn input input'
      → IsHalted filter held inside input input' output output' Memory
  unwritten : (octets text : List ℕ) → Consumes input.octets input'.octets octets
      → IsWrittenFor filter octets text → AppendsPart output.octets output'.octets text
      → Fails output output' → WorksOn input input'
      → IsHalted filter held inside input input' output output' Write

-- said of every failure but that of the writer
abbrev pub IfWriterWorks : Failure → Type 0 → Type 0
IfWriterWorks Read P = P
IfWriterWorks Write P = ⊤
IfWriterWorks Memory P = P
