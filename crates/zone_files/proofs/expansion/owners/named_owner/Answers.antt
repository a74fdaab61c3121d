use Rattle.std.proofs.Common.{ap}
use Rattle.zone_rdata.specs.Item.{raw}
use Rattle.zone_files.proofs.Expansions.Including.{owner_bare}
use Rattle.zone_files.proofs.expansion.owners.named_owner.Goals as goal

pub returns-in-Bare : goal.returns-in-Bare
returns-in-Bare c = owner_bare c.args.origin.now c.args.owner c.in-Bare.text.now _ (ap raw c.in-Bare.is) c.spelled.ensures
