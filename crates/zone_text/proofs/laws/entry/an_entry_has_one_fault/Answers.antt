use Rattle.zone_text.proofs.Entries.Entered.{fault_once}
use Rattle.zone_text.proofs.laws.entry.an_entry_has_one_fault.Goals as goal

pub returns : goal.returns
returns c = fault_once c.lower_laws.ensures
