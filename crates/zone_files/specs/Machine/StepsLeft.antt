-- How many steps may be left while files are read.
use Rattle.std.specs.Prelude.{◌≡◌, ℕ, ◌+◌, ◌-◌, ◌*◌, ◌^◌, ◌<◌, ◌≤◌, List, [], ◌∷◌, length}
use Rattle.zone_print.specs.Canonical.{text_limit}
use Rattle.zone_files.specs.FileExpander.{lines_left}
use Rattle.zone_files.specs.Turns.{turns_left}
use Rattle.zone_files.specs.declared.files.files_reader.FilesReader.{FilesReader}
use Rattle.zone_files.specs.declared.files.open_file.OpenFile.{OpenFile}
use Rattle.zone_files.specs.declared.files.open_files.OpenFiles.{OpenFiles}

module _ {F : Type 0} where
  -- the octets of a file that may still be taken, and its end
  abbrev pub room : OpenFile F → ℕ
  room o = (text_limit - o.count) + length o.piece + 1

  abbrev pub rooms : List (OpenFile F) → ℕ
  rooms [] = 0
  rooms (o ∷ others) = room o + rooms others

  abbrev pub open_rooms : OpenFiles F → ℕ
  open_rooms files = room files.innermost + rooms files.outer.items

  -- those of the files that are open and of those that may still be opened
  abbrev pub units_left : FilesReader F → ℕ
  units_left r = (10000 - r.included) * (text_limit + 2) + open_rooms r.«open»

  abbrev pub steps_left : FilesReader F → ℕ
  steps_left r = units_left r * 2 ^ 66 + turns_left r.stack.innermost

  -- as many files wait for their readers as for their expanders
  abbrev pub IsAligned : FilesReader F → Type 0
  IsAligned r = length r.«open».outer.items ≡ length r.stack.outer

  -- a step was made, if lines are counted in 64 bits
  pub record StepsOn (old new : FilesReader F) : Type 0 where
    pub aligned : IsAligned new
    pub fewer : lines_left new.stack.innermost.generated < 2 ^ 64 → steps_left new < steps_left old

  -- files were closed, or none
  pub record ClosesSome (old new : FilesReader F) : Type 0 where
    pub aligned : length old.stack.outer ≤ length old.«open».outer.items → IsAligned new
    pub no_more : units_left new ≤ units_left old
    pub fewer : length old.stack.outer < length old.«open».outer.items
        → units_left new < units_left old
