use Rattle.type_data.proofs.Common.{ap, raw}
use Rattle.type_data.proofs.kinds.location.place.seconds_of.Goals as goal

pub returns-clause-found : goal.returns-clause-found
returns-clause-found c = rw (ap raw c.in-Bare.is) c.scaled.ensures.found

pub returns-clause-none : goal.returns-clause-none
returns-clause-none c = rw (ap raw c.in-Bare.is) c.scaled.ensures.none
