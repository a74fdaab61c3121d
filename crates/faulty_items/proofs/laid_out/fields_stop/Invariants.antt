use Rattle.faulty_items.proofs.Common.{codes, length, map, raw, ◌-◌, ◌≤◌}
use denote.Text.{Utf8}
use denote.Shadow.{shadow}
use Rattle.zone_rdata.specs.Layout.{fields_of}
use Rattle.faulty_items.specs.FieldNames.{field_name}
use Rattle.faulty_items.proofs.Reading.{LaidRead}
use Rattle.faulty_items.proofs.laid_out.fields_stop.Given as goal

abbrev pub invariant-loop-field : goal.invariant-loop-field
invariant-loop-field l =
    shadow (Utf8 l.last)
    × (l.taken ≤ length l.fn.items)
    × LaidRead l.fn.origin (field_name l.fn.kind) (fields_of l.fn.layout) (map raw l.fn.items) l.place l.taken l.last (codes "data")

abbrev pub decreases-loop-field : goal.decreases-loop-field
decreases-loop-field l = length (fields_of l.fn.layout) - l.place
