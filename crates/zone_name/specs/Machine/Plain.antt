-- How a text without escapes becomes octets: each label's length takes the place of the dot before
-- it.
use Rattle.std.specs.Prelude.{◌≡◌, ℕ, ◌≤◌, ◌-◌, ◌*◌, List, ◌∷◌, ◌++◌, length, map, drop, Bool, not, ◌||◌, ◌==◌}
use Rattle.std.specs.List.{flat_map, AllByRecursion}
use Rattle.std.specs.Simd.Lanes.{chunk, mask_l, put_chunk}
use Rattle.zone_name.specs.Common.{each_after}
use Rattle.zone_name.specs.Name.{with_length}
use Rattle.zone_name.specs.Spelling.{Written, IsWrittenLabel, is_dot, written_text, written_octets}
use Rattle.zone_name.specs.declared.reading.Marks.{Marks}

-- a dot or a backslash
abbrev pub is_mark : ℕ → Bool
is_mark c = is_dot c || c == 92

-- an octet that stands for itself in a label
abbrev pub is_plain : ℕ → Bool
is_plain c = not (is_mark c)

-- the bits tell which of the octets from a place on, of 16 at most, are dots or backslashes
pub record TellsMarks (marks : Marks) (octets : List ℕ) (start : ℕ) : Type 0 where
  pub front : start ≤ marks.seen
  pub few : marks.seen - start ≤ 16
  pub within : marks.seen - start ≤ length octets - start
  pub bits : marks.bits ≡ mask_l (map is_mark (chunk start (marks.seen - start) octets))

-- each label with a dot before it
abbrev pub after_dots : List (List Written) → List ℕ
after_dots labels = flat_map (λ label. 46 ∷ written_text label) labels

-- labels of at most 63 octets with their dots, and the rest, are now their octets with their
-- lengths, and the same rest
pub record WritesLengths (old new rest : List ℕ) : Type 0 where
  pub written : List (List Written)
  pub each : AllByRecursion IsWrittenLabel written
  pub short : AllByRecursion (λ label. length label ≤ 63) written
  pub dots : old ≡ after_dots written ++ rest
  pub lengths : new ≡ flat_map with_length (map written_octets written) ++ rest

-- the 16 octets at a place were eight, each after one octet, and are now the same after another
pub record TurnsEvens (old new : List ℕ) (at from to : ℕ) : Type 0 where
  pub others : List ℕ
  pub eight : length others ≡ 8
  pub before : chunk at 16 old ≡ each_after from others
  pub after : new ≡ put_chunk at old (each_after to others)

-- the octets before a place were some, each after one octet, and are now the same after another
pub record TurnsFront (old new : List ℕ) (at from to : ℕ) : Type 0 where
  pub others : List ℕ
  pub place : at ≡ 2 * length others
  pub before : old ≡ each_after from others ++ drop at old
  pub after : new ≡ each_after to others ++ drop at old
