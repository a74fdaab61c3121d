use Rattle.zone_files.proofs.expansion.owners.spelled.Goals as goal

pub returns-in-Err : goal.returns-in-Err
returns-in-Err c name is = absurd (let same = c.in-Err.ensures.only name is in cc)
