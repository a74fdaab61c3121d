use Rattle.type_data.proofs.Common.{map, raw_item}
use Rattle.type_data.proofs.OfKinds.Location.Places.{no_angle}
use Rattle.type_data.proofs.kinds.location.place.split_place.Goals as goal

pub returns-in_default-angle_of-clause-none : goal.returns-in_default-angle_of-clause-none
returns-in_default-angle_of-clause-none c = no_angle c.args.axis (map raw_item c.args.items.now) (map raw_item c.in-Some.front.now) (map raw_item c.in-Some.rest.now) c.in-Some.half c.most_degrees.result c.in-Some.ensures.found c.most_degrees.ensures.value c.in_default-angle_of.ensures.none
