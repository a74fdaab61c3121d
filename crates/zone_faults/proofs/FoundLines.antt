-- Lines of faults that are written one after another.
use Rattle.std.proofs.Common.{◌≡◌, ℕ, suc, ◌+◌, ◌<◌, List, [], ◌∷◌, ◌++◌, length, drop, get_or, ap, refl, subst, sym, ◌∙◌, add-one}
use Rattle.std.proofs.Math.Seq.{drop-cons}
use Rattle.std.proofs.KnownBytes.{Appends-nil}
use Rattle.std.specs.Prelude.{Option, Some, option_map}
use Rattle.std.specs.Io.KnownBytes.{Appends}
use Rattle.zone_print.proofs.Front.{Left, left_less, left_none, part_more}
use Rattle.zone_files.specs.FaultLine.{entry_text}
use Rattle.zone_files.specs.PlacedLine.{placed_line}
use Rattle.zone_files.specs.declared.fault_line.EntryPlace.{EntryPlace}
use Rattle.zone_faults.specs.Checking.{faulty_text}
use Rattle.zone_faults.specs.FoundLine.{found_line, found_lines, line_at}
use Rattle.zone_faults.specs.declared.found_fault.FoundFault.{FoundFault}

-- the next line, and those after it
pub next_line : (faults : List FoundFault) (i : ℕ) (item : FoundFault) → item ≡ get_or faults i item → i < length faults → found_lines (drop i faults) ≡ (found_line item ++ 10 ∷ []) ++ found_lines (drop (i + 1) faults)
next_line faults i item is here =
    ap (λ (rest : List FoundFault). found_lines rest) (drop-cons faults i item here)
    ∙ ap (λ (found : FoundFault). (found_line found ++ 10 ∷ []) ++ found_lines (drop (suc i) faults)) (sym is)
    ∙ ap (λ (n : ℕ). (found_line item ++ 10 ∷ []) ++ found_lines (drop n faults)) (sym (add-one i))

-- the line of a fault at the place of its entry
pub placed_is : (found : FoundFault) (place : EntryPlace) (at : Option EntryPlace) (before behind : List ℕ) → at ≡ Some place → option_map entry_text at ≡ option_map faulty_text found.entry → before ≡ [] → behind ≡ [] → placed_line (entry_text place) found.fault before behind ≡ found_line found
placed_is found place at before behind is same none_before none_behind =
    let e : Some (entry_text place) ≡ option_map faulty_text found.entry = subst (λ (p : Option EntryPlace). option_map entry_text p ≡ option_map faulty_text found.entry) is same in
    rw (none_before, none_behind) (ap (λ (p : Option (List ℕ)). line_at found.fault p) e)

-- nothing was written
pub left_whole : (known : Option (List ℕ)) (text : List ℕ) → Left known known text text
left_whole known text = record { front = []; split = refl; taken = Appends-nil known }

-- all was written, where no line is left
pub all_written : (old new : Option (List ℕ)) (text rest : List ℕ) → Left old new text rest → rest ≡ [] → Appends old new text
all_written old new text rest left none = left_none old new new text rest [] left none (Appends-nil new)

pub ruleset written = (next_line, part_more, left_less, left_whole, all_written)
