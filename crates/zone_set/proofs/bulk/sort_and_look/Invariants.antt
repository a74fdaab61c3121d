use Rattle.zone_set.proofs.bulk.sort_and_look.Given as goal

abbrev pub ghost-put_runs : goal.ghost-put_runs
ghost-put_runs g a = g.base
