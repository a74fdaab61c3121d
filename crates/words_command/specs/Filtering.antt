-- What it leaves to read a text, to pass it through a filter and to write what that writes for it
-- (this project's own).
use Rattle.std.specs.Prelude.{◌≡◌, ℕ, ◌<◌, ◌^◌, List, ◌++◌, length}
use Rattle.std.specs.Io.KnownBytes.{Appends, Consumes, IsAtEnd}
use Rattle.zone_print.specs.Device.{Device, WorksOn, Fails}
use Rattle.zone_print.specs.Writing.{AppendsPart}
use Rattle.words_command.specs.declared.failure.Failure.{Failure}
use Rattle.words_command.specs.declared.failure.Failure.TheVariants.{Read, Write, Memory}

-- what a filter writes for octets: so far, whatever follows them; and where they are all
pub record Filtering : Type 1 where
  pub SoFar : List ℕ → List ℕ → Type 0
  pub All : List ℕ → List ℕ → Type 0

-- no more is read after so many octets
abbrev pub most_octets : ℕ
most_octets = 2 ^ 63

-- an input was read to its end, and a text that is so for its octets was written
pub record IsWrittenWhole (Is : List ℕ → List ℕ → Type 0)
    (input input' output output' : Device) : Type 0 where
  pub octets : List ℕ
  pub read : Consumes input.octets input'.octets octets
  pub to_end : IsAtEnd input'.octets
  pub text : List ℕ
  pub is : Is octets text
  pub written : Appends output.octets output'.octets text
  pub works : WorksOn input input' × WorksOn output output'

-- a text and a last line were written; or the writer failed after a proper prefix of both
pub data EndsWith (last text : List ℕ) (old new : Device) : Type 0 where
  whole : Appends old.octets new.octets (text ++ last) → WorksOn old new
      → EndsWith last text old new
  part : AppendsPart old.octets new.octets (text ++ last) → Fails old new
      → EndsWith last text old new

-- why no more was read of an input after these octets: a read failed, or they are too many
pub data EndsReading (octets : List ℕ) (old new : Device) : Type 0 where
  failed : Fails old new → EndsReading octets old new
  too_many : most_octets < length octets → WorksOn old new → EndsReading octets old new

-- a text is written so far for a beginning of octets
pub record IsSoFarInPart (SoFar : List ℕ → List ℕ → Type 0) (octets text : List ℕ) : Type 0 where
  pub front : List ℕ
  pub back : List ℕ
  pub whole : octets ≡ front ++ back
  pub so_far : SoFar front text

-- a text that was being written for octets that were read: it is all that is written for them
-- before more is read, or what is written for the text that they are
pub data IsWrittenFor (filter : Filtering) (octets text : List ℕ) : Type 0 where
  so_far : filter.SoFar octets text → IsWrittenFor filter octets text
  all : filter.All octets text → IsWrittenFor filter octets text

-- What is left where it failed, with the octets that were read. Where reading ended before the end
-- of the input, what is written for them so far was written, and the last line that such a text
-- gets. Where memory was refused, it was for a beginning of the octets. A failed writer took a
-- proper prefix of what was being written, and gets no last line.
pub data IsStopped (filter : Filtering) (last : List ℕ → List ℕ)
    (input input' output output' : Device) : Failure → Type 0 where
  unread : (octets text : List ℕ) → Consumes input.octets input'.octets octets
      → filter.SoFar octets text → EndsWith (last text) text output output'
      → EndsReading octets input input'
      → IsStopped filter last input input' output output' Read
  out_of_memory : (octets text : List ℕ) → Consumes input.octets input'.octets octets
      → IsSoFarInPart filter.SoFar octets text → EndsWith (last text) text output output'
      → WorksOn input input' → IsStopped filter last input input' output output' Memory
  unwritten : (octets text : List ℕ) → Consumes input.octets input'.octets octets
      → IsWrittenFor filter octets text → AppendsPart output.octets output'.octets text
      → Fails output output' → WorksOn input input'
      → IsStopped filter last input input' output output' Write
