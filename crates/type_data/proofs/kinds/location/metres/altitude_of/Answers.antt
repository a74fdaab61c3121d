use Rattle.type_data.proofs.Common.{ap, raw}
use Rattle.type_data.proofs.kinds.location.metres.altitude_of.Goals as goal

pub returns-in-Bare-clause-none : goal.returns-in-Bare-clause-none
returns-in-Bare-clause-none c = rw (ap raw c.in-Bare.is) c.altitude_in.ensures.none
