-- Names in messages (RFC 1035 3.1, 4.1.4).
use Rattle.std.specs.Prelude.{◌≡◌, ℕ, suc, ◌+◌, ◌-◌, ◌*◌, ◌<◌, ◌≤◌, List, [], ◌∷◌, take, drop, length, slice_index}
use Rattle.zone_name.specs.Common.{Labels}
use Rattle.zone_name.specs.Name.{folded_label, IsName}
use Rattle.zone_wire.specs.declared.name.Decoded.{Decoded}

-- the label of this many octets after its length at an offset, in lower case
abbrev pub label_at : List ℕ → ℕ → ℕ → List ℕ
label_at message offset size = folded_label (take size (drop (offset + 1) message))

-- the low fourteen bits of the two octets of a pointer
abbrev pub target_at : List ℕ → ℕ → ℕ
target_at message offset =
    (slice_index message offset - 192) * 256 + slice_index message (offset + 1)

-- a label at an offset: its length, 1 to 63, and as many octets after it, all in the message
pub record IsLabelAt (message : List ℕ) (offset size : ℕ) : Type 0 where
  pub first : slice_index message offset ≡ size
  pub some : 0 < size
  pub short : size ≤ 63
  pub inside : offset + size < length message

-- A pointer at an offset: two octets of the message of which the first is 192 or more. It leads to
-- at least 12, past the header, and below a bound. RFC 1035 4.1.4 says only that it leads to a
-- prior occurrence of a name; both limits are this project's own choice.
pub record IsPointerAt (message : List ℕ) (offset bound target : ℕ) : Type 0 where
  pub inside : offset + 1 < length message
  pub first : 192 ≤ slice_index message offset
  pub leads : target ≡ target_at message offset
  pub past_header : 12 ≤ target
  pub below : target < bound

-- The labels from an offset on, with the offset after them, the steps and the pointers. The bound
-- of a pointer is the offset at which the run of labels began that it ends.
pub data At (message : List ℕ) : ℕ → ℕ → Labels → ℕ → ℕ → ℕ → Type 0 where
  root : (offset bound : ℕ) → offset < length message → slice_index message offset ≡ 0
      → At message offset bound [] (offset + 1) 1 0
  label : (offset bound size : ℕ) (labels : Labels) (end steps pointers : ℕ)
      → IsLabelAt message offset size
      → At message (offset + 1 + size) bound labels end steps pointers
      → At message offset bound (label_at message offset size ∷ labels) end (suc steps) pointers
  pointer : (offset bound target : ℕ) (labels : Labels) (end steps pointers : ℕ)
      → IsPointerAt message offset bound target
      → At message target target labels end steps pointers
      → At message offset bound labels (offset + 2) (suc steps) (suc pointers)

-- what a name in a message gives: its labels, the offset after it, and its steps and pointers
pub record Found : Type 0 where
  pub labels : Labels
  pub end : ℕ
  pub steps : ℕ
  pub pointers : ℕ

-- The name at an offset: its labels are a name, and at most 128 pointers lead through it, which is
-- this project's own choice: a name of which no pointer leads to a pointer has no more.
pub record IsNameAt (message : List ℕ) (offset : ℕ) (found : Found) : Type 0 where
  pub at : At message offset offset found.labels found.end found.steps found.pointers
  pub name : IsName found.labels
  pub few : found.pointers ≤ 128

-- what holds of each name, its message and its offset
abbrev pub OfEachName : (List ℕ → ℕ → Found → Type 0) → Type 0
OfEachName Holds =
    (message : List ℕ) (offset : ℕ) (found : Found) → IsNameAt message offset found
    → Holds message offset found

-- what was decoded, with the number of its pointers
abbrev pub found_by : Decoded → ℕ → Found
found_by d pointers = record { labels = d.name; end = d.end; steps = d.steps; pointers = pointers }
