-- Its parts are one each.
use Rattle.zone_digest.proofs.OneWanted.{one_wanted}
use Rattle.zone_digest.proofs.laws.one_wanted_record.Goals as goal

pub returns : goal.returns
returns c = one_wanted
