use Rattle.faulty_items.proofs.Common.{codes, given, length, map, ◌≤◌}
use denote.Text.{Utf8}
use denote.Shadow.{shadow}
use Rattle.type_data.specs.Table.{fields_in, of_code}
use Rattle.faulty_items.proofs.Reading.{FurtherRead}
use Rattle.faulty_items.proofs.further.further_stop.Given as goal

abbrev pub invariant-loop-place : goal.invariant-loop-place
invariant-loop-place l =
    shadow (Utf8 l.last)
    × (l.taken ≤ length l.fn.items)
    × FurtherRead l.fn.origin (fields_in (of_code l.fn.fields) (map given l.fn.items)) (map given l.fn.items) l.place l.taken l.last (codes "data")
