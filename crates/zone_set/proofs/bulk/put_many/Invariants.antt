use Rattle.zone_set.proofs.bulk.put_many.Given as goal

abbrev pub ghost-neighbour_order : goal.ghost-neighbour_order
ghost-neighbour_order g a = g.base

abbrev pub ghost-are_neighbours : goal.ghost-are_neighbours
ghost-are_neighbours g a = g.base
