use Rattle.zone_set.proofs.Common.{Some, joined, IsEntry, IsLinked}
use Rattle.zone_set.proofs.Ordering.Between.{last_has}
use Rattle.zone_set.proofs.sets.ZoneBuilder.last.Goals as goal
use Rattle.zone_set.proofs.sets.ZoneBuilder.last.Goals.{After-as_slice}

-- the last entry's record stands where it says
linked : (c : After-as_slice) → IsLinked c.self.inside.class c.as_slice.result.now c.in_ok-entry.entry.now
linked c = rw c.as_slice.ensures.value (last_has (IsEntry c.self.inside.base c.self.inside.class c.self.inside.octets.items) (joined c.self.inside.entries) c.self.invariant.holds.each (Some c.in_ok-entry.entry.now) c.in_ok-entry.ensures).linked

pub record_at-requires-clause-stands : goal.record_at-requires-clause-stands
record_at-requires-clause-stands c = (linked (goal.at.record_at-requires-clause-stands c).After-as_slice).stands

pub record_at-requires-clause-whole : goal.record_at-requires-clause-whole
record_at-requires-clause-whole c = (linked (goal.at.record_at-requires-clause-whole c).After-as_slice).whole
