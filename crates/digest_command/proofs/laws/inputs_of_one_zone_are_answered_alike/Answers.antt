-- One zone, and one answer about it.
use Rattle.digest_command.proofs.OneAnswer.{one_of_both}
use Rattle.digest_command.proofs.laws.inputs_of_one_zone_are_answered_alike.Goals as goal

pub returns : goal.returns
returns c = one_of_both c.one_serial_of_a_zone.ensures c.one_list_of_findings.ensures c.one_wanted_record.ensures c.one_zone.ensures
