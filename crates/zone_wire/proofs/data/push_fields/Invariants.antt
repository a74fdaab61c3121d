use Rattle.zone_wire.proofs.Common.{fields_of, length, ◌-◌}
use Rattle.zone_wire.proofs.Fields.DataReading.{HaveValues}
use Rattle.zone_wire.proofs.data.push_fields.Given as goal

abbrev pub invariant-loop-field : goal.invariant-loop-field
invariant-loop-field l = HaveValues l.fn.cursor l.cursor (fields_of l.fields) l.fn.builder l.builder l.count

abbrev pub decreases-loop-field : goal.decreases-loop-field
decreases-loop-field l = length (fields_of l.fields) - l.count
