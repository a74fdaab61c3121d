use Rattle.zone_files.proofs.placed_fault.write_placed_fault.Goals as goal

pub returns-in-Expansion-clause-part : goal.returns-in-Expansion-clause-part
returns-in-Expansion-clause-part g c = rw c.in-Expansion.is c.write_expansion.ensures.part

pub returns-in-Text-clause-part : goal.returns-in-Text-clause-part
returns-in-Text-clause-part g c = rw c.in-Text.is c.write_text_or_data.ensures.part
