use Rattle.std.proofs.Common.{drop, map}
use Rattle.type_data.proofs.PrintedInRow.{PrintedSoFar}
use Rattle.type_data.proofs.printed_data.print_fields.Given as goal
use Rattle.type_data.specs.Table.{field_of}

abbrev pub invariant-loop-field : goal.invariant-loop-field
invariant-loop-field l = PrintedSoFar (map field_of l.fn.fields) (map field_of (drop l.field-index l.fields)) l.fn.octets l.rest l.fn.out.items l.out.items
