use Rattle.zone_faults.proofs.writing.write_whole.Goals as goal

pub returns-in-Expansion-clause-part : goal.returns-in-Expansion-clause-part
returns-in-Expansion-clause-part g c = rw c.in-Expansion.is c.write_expansion_fault.ensures.part

pub returns-in-Text-clause-part : goal.returns-in-Text-clause-part
returns-in-Text-clause-part g c = rw c.in-Text.is c.write_whole_text.ensures.part
