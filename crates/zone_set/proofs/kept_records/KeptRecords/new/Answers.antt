use Rattle.zone_set.proofs.Storage.Kept.{kept_list}
use Rattle.zone_set.proofs.kept_records.KeptRecords.new.Goals as goal

pub returns : goal.returns
returns c = λ records are. kept_list _ _ records are
