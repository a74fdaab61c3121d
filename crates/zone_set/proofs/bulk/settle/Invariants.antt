use Rattle.zone_set.proofs.bulk.settle.Given as goal

abbrev pub ghost-are_neighbours : goal.ghost-are_neighbours
ghost-are_neighbours g a = g.base

abbrev pub ghost-sort_and_look : goal.ghost-sort_and_look
ghost-sort_and_look g a = g.base
