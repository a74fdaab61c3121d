-- Where the lines of an expanded text come from (this project's own).
use Rattle.std.specs.Prelude.{◌≡◌, ℕ, ◌+◌, ◌-◌, ◌*◌, ◌^◌, ◌≤◌, ◌<◌, List, length, min, Option, Some, None, option_map, slice_get}
use Rattle.std.specs.List.{AllWithin}
use Rattle.zone_files.specs.declared.places.FilePlace.{FilePlace}
use Rattle.zone_files.specs.declared.places.Stretch.{Stretch}

-- a count in 64 bits
abbrev pub counted : ℕ → ℕ
counted n = min n (2 ^ 64 - 1)

-- the line in the file, so many lines after one: that of the entry for each value of a `$GENERATE`
abbrev pub line_after : Option ℕ → ℕ → ℕ → ℕ
line_after None line lines = counted (line + lines)
line_after (Some value) line lines = line

-- the place so many lines after one, where the value grows by a step from line to line
abbrev pub place_after : FilePlace → ℕ → ℕ → FilePlace
place_after p step lines = record {
  file = p.file;
  line = line_after p.value p.line lines;
  value = option_map (λ value. counted (value + counted (lines * step))) p.value;
}

-- the place of a line of the expanded text that is in a stretch
abbrev pub place_in : Stretch → ℕ → FilePlace
place_in s line = place_after s.place s.step (line - s.first)

-- The stretch that a line of the expanded text is in: the last one that begins at or before it.
pub record IsStretchOf (stretches : List Stretch) (line : ℕ) (s : Stretch) : Type 0 where
  pub index : ℕ
  pub is : slice_get stretches index ≡ Some s
  pub begins : s.first ≤ line
  pub later : AllWithin (λ (other : Stretch). line < other.first) stretches (index + 1)
      (length stretches)
