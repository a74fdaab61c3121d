use Rattle.zone_words.proofs.JoinedStopped.{stopped_is_refused, stopped_states_none}
use Rattle.zone_words.proofs.laws.joined.what_is_stopped_is_no_file.Goals as goal

pub returns-clause-stated : goal.returns-clause-stated
returns-clause-stated c cased origin = stopped_states_none cased origin

pub returns-clause-refused : goal.returns-clause-refused
returns-clause-refused c cased origin = stopped_is_refused cased origin
