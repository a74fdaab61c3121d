use Rattle.zone_text.proofs.Entries.Lines.{whole_stated}
use Rattle.zone_text.proofs.laws.line.a_whole_entry_states_its_record.Goals as goal

pub returns : goal.returns
returns c = whole_stated
