use Rattle.type_data.proofs.Common.{ap, map, raw_item}
use Rattle.type_data.proofs.OfKinds.Location.Places.{too_wide}
use Rattle.type_data.proofs.kinds.location.place.angle_of.Goals as goal

pub returns-else-angle-most-clause-none : goal.returns-else-angle-most-clause-none
returns-else-angle-most-clause-none c = too_wide (map raw_item c.args.items.now) (map raw_item c.in-Some.rest.now) (raw_item c.in-Some.first.now) c.args.most c.in-Some-whole_of.degrees c.in-Some-parts_of_degree.part (ap (map raw_item) c.in-Some.ensures.cases.0) c.in-Some-whole_of.ensures.found.0 c.in-Some-parts_of_degree.ensures.found.0 c.if-angle-most.false
