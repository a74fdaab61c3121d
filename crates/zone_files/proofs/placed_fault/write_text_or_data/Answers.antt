use Rattle.zone_files.proofs.placed_fault.write_text_or_data.Goals as goal

pub returns-in-None-clause-part : goal.returns-in-None-clause-part
returns-in-None-clause-part g c = rw c.in-None.is c.write_text.ensures.part

pub returns-in-Some-clause-part : goal.returns-in-Some-clause-part
returns-in-Some-clause-part g c = rw c.in-Some.is c.write_data.ensures.part
