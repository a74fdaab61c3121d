use Rattle.type_data.proofs.OfKinds.Location.Once.{location_states_or_fails}
use Rattle.type_data.proofs.laws.data.a_location_is_stated_or_faulty.Goals as goal

pub returns : goal.returns
returns c = location_states_or_fails
