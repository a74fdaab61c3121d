use Rattle.zone_rdata.proofs.Texts.TextItems.{stated_for}
use Rattle.zone_rdata.proofs.Words.Tables.{table_row}
use Rattle.zone_rdata.proofs.laws.text.printed_data_is_stated.Goals as goal

pub returns-clause-stated : goal.returns-clause-stated
returns-clause-stated c = λ origin d h. record { stated = stated_for c.printed_names_are_spelled.ensures origin _ d.octets (table_row d.class d.kind) h.octets.short h.octets.each h.octets.value }
