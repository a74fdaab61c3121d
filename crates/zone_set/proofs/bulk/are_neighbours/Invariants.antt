use Rattle.zone_set.proofs.bulk.are_neighbours.Given as goal

abbrev pub ghost-neighbour_order : goal.ghost-neighbour_order
ghost-neighbour_order g a = g.base
