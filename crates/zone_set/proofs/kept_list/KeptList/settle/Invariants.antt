use Rattle.zone_set.proofs.Common.{all_records}
use Rattle.zone_set.proofs.kept_list.KeptList.settle.Given as goal

abbrev pub ghost-settle_parts : goal.ghost-settle_parts
ghost-settle_parts a = (a.base, all_records a.class a.octets.items a.entries.items)
