use Rattle.zone_faults.proofs.writing.write_whole_text.Goals as goal

pub returns-in-None-clause-part : goal.returns-in-None-clause-part
returns-in-None-clause-part g c = rw c.in-None.is c.write_fault.ensures.part

pub returns-in-Some-clause-part : goal.returns-in-Some-clause-part
returns-in-Some-clause-part g c = rw c.in-Some.is c.write_data_fault.ensures.part
