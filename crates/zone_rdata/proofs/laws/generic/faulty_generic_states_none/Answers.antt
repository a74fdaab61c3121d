use Rattle.zone_rdata.proofs.Items.GenericLaws.{generic_never_both}
use Rattle.zone_rdata.proofs.laws.generic.faulty_generic_states_none.Goals as goal

pub returns : goal.returns
returns c = generic_never_both
