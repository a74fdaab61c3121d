use Rattle.zone_print.proofs.OneZone.{one_zone_of_file}
use Rattle.zone_print.proofs.laws.one_zone_of_a_file.Goals as goal

pub returns : goal.returns
returns c = λ origin octets. one_zone_of_file origin octets (c.a_file_states_one_list.ensures origin octets)
