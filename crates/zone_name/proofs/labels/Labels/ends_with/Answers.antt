use Rattle.zone_name.proofs.InOctets.Comparing.{within_decided}
use Rattle.zone_name.proofs.labels.Labels.ends_with.Goals as goal

pub returns-then-ending_len-len : goal.returns-then-ending_len-len
returns-then-ending_len-len c =
    within_decided c.args.self c.args.ending c.past.result c.len-len.result c.len-ending_len.result c.is_same.result
    c.len-len.ensures.value c.len-ending_len.ensures.value c.if-ending_len-len.true c.past.ensures c.is_same.ensures
