-- How a name's text is read from the left: what stands at a place, and what that makes of the
-- labels so far.
use Rattle.std.specs.Prelude.{◌≡◌, ℕ, zero, suc, ◌<◌, List, [], ◌∷◌, ◌++◌, length, Bool, true, false, nat_le, if◌then◌else◌, Option, Some, None, Result, Ok, Err}
use Rattle.zone_name.specs.Common.{Labels}
use Rattle.zone_name.specs.Name.{wire}
use Rattle.zone_name.specs.Spelling.{Written, octet_of, is_dot}
use Rattle.zone_name.specs.Machine.Units.{unit_first}
use Rattle.zone_name.specs.declared.fault.NameFault.{NameFault}
use Rattle.zone_name.specs.declared.fault.NameFault.TheVariants.{EmptyLabel, LabelTooLong, NameTooLong, BadEscape, RelativeName}

-- what stands where a label's next octet would in a text, and what follows it
pub data Ahead : Type 0 where
  at_end : Ahead
  at_dot : List ℕ → Ahead
  at_octet : ℕ → List ℕ → Ahead
  at_fault : Ahead

abbrev pub unit_ahead : Option (Written × List ℕ) → Ahead
unit_ahead None = at_fault
unit_ahead (Some (w, rest)) = at_octet (octet_of w) rest

abbrev pub ahead_in : List ℕ → Ahead
ahead_in [] = at_end
ahead_in (c ∷ rest) = if is_dot c then at_dot rest else unit_ahead (unit_first is_dot (c ∷ rest))

-- a step: the labels and whether the name is absolute, a fault, or the labels so far, the open
-- label's octets and the rest
pub data Step : Type 0 where
  done : Labels → Bool → Step
  failed : NameFault → Step
  goes : Labels → List ℕ → List ℕ → Step

abbrev pub step_at : Labels → List ℕ → Ahead → Step
step_at labels [] at_end = done labels true
step_at labels (c ∷ open_label) at_end = done (labels ++ (c ∷ open_label) ∷ []) false
step_at labels [] (at_dot rest) = failed EmptyLabel
step_at labels (c ∷ open_label) (at_dot rest) =
    goes (labels ++ (c ∷ open_label) ∷ []) [] rest
step_at labels open_label (at_octet c rest) =
    if nat_le 63 (length open_label) then failed LabelTooLong
    else goes labels (open_label ++ c ∷ []) rest
step_at labels open_label at_fault = failed BadEscape

-- the labels of a text and whether they are all of the name, or the text's own first fault; n is
-- above the octets that are left
abbrev pub read : ℕ → Labels → List ℕ → List ℕ → Result (Labels × Bool) NameFault
read zero labels open_label rest = Err BadEscape
read (suc n) labels open_label rest =
    elim (step_at labels open_label (ahead_in rest)) [
      | done found whole ↦ Ok (found, whole)
      | failed fault ↦ Err fault
      | goes more open_next left ↦ read n more open_next left
    ]

unfoldable pub reading : List ℕ → Result (Labels × Bool) NameFault
reading [] = Err EmptyLabel
reading (c ∷ text) = read (suc (length (c ∷ text))) [] [] (c ∷ text)

-- labels that were collected, or that take too many octets for a name
abbrev pub Collects : Labels → Bool → Labels → Type 0
Collects held true labels = 255 < length (wire labels)
Collects held false labels = held ≡ labels

abbrev pub sized : Labels → Result Labels NameFault
sized labels = if nat_le (length (wire labels)) 255 then Ok labels else Err NameTooLong

-- the name of the labels that were read
abbrev pub under_origin : Option Labels → Result (Labels × Bool) NameFault → Result Labels NameFault
under_origin origin (Err fault) = Err fault
under_origin origin (Ok (labels, true)) = sized labels
under_origin None (Ok (labels, false)) = Err RelativeName
under_origin (Some above) (Ok (labels, false)) = sized (labels ++ above)
