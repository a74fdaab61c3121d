use Rattle.zone_wire.proofs.Common.{◌-◌}
use Rattle.zone_wire.proofs.Fields.DataReading.{HavePut}
use Rattle.zone_wire.proofs.data.push_strings.Given as goal

abbrev pub invariant-loop-builder : goal.invariant-loop-builder
invariant-loop-builder l = HavePut l.fn.cursor l.cursor l.fn.builder l.builder

abbrev pub decreases-loop-builder : goal.decreases-loop-builder
decreases-loop-builder l = l.cursor.end - l.cursor.at
