use Rattle.zone_text.proofs.Common.{rules}
use Rattle.zone_text.proofs.Entries.Entered.{record_or_fault, nothing_or_record, nothing_or_fault}
use Rattle.zone_text.proofs.laws.entry.an_entry_has_one_outcome.Goals as goal

pub returns : goal.returns
returns c = search (rules, record_or_fault, nothing_or_record, nothing_or_fault, c.lower_laws.ensures)
