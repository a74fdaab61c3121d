use Rattle.zone_files.proofs.loading.accepting.accepted_source.Goals as goal

pub returns-in-Ok-clause-zone : goal.returns-in-Ok-clause-zone
returns-in-Ok-clause-zone g c = rw c.in-File.is c.accepted_file.ensures.zone

pub returns-in-Ok-clause-read : goal.returns-in-Ok-clause-read
returns-in-Ok-clause-read g c = rw c.in-File.is c.accepted_file.ensures.read
