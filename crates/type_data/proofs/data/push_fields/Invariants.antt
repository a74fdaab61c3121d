use Rattle.type_data.proofs.Common.{drop, field_of, given, length, map, ◌≤◌}
use Rattle.type_data.proofs.ReadFields.{HaveRead}
use Rattle.type_data.proofs.data.push_fields.Given as goal

abbrev pub invariant-loop-field : goal.invariant-loop-field
invariant-loop-field l =
    (l.place ≤ length l.items)
    × HaveRead l.fn.origin (map field_of l.fn.fields) (map field_of (drop l.field-index l.fields)) (map given l.fn.items) (map given (drop l.place l.items)) l.fn.out.items l.out.items
