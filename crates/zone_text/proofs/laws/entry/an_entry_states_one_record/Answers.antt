use Rattle.zone_text.proofs.Entries.Entered.{record_once}
use Rattle.zone_text.proofs.laws.entry.an_entry_states_one_record.Goals as goal

pub returns : goal.returns
returns c = record_once c.lower_laws.ensures
