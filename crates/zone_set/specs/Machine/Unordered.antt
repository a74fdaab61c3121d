-- The records of a zone in an order that isn't told.
use Rattle.std.specs.Prelude.{List}
use Rattle.zone_rdata.specs.Record.{Record}
use Rattle.zone_set.specs.declared.unordered.Left.{Left}
use Rattle.zone_set.specs.declared.unordered.Left.TheVariants.{Kept, Sorted}

-- those that are left, wherever they come from
abbrev pub left_records : Left → List Record
left_records (Kept records) = records
left_records (Sorted records) = records
