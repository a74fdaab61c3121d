use Rattle.zone_set.proofs.Common.{records_of, subst}
use Rattle.zone_set.proofs.Lists.Differing.{bounded_within}
use Rattle.zone_set.specs.Bounded.{IsBoundedBy}
use Rattle.zone_set.proofs.list.ZoneList.known.Goals as goal

pub returns : goal.returns
returns c = subst (λ ps. IsBoundedBy 8 327943 (records_of ps)) c.self.view_is (bounded_within c.self.inside.mark _ c.self.invariant)
