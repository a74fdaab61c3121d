use Rattle.zone_set.proofs.kept_list.settle_parts.Given as goal

abbrev pub ghost-settle : goal.ghost-settle
ghost-settle g a = g.known.0

abbrev pub ghost-offer : goal.ghost-offer
ghost-offer g a = g.known.1

abbrev pub ghost-len_of_entries : goal.ghost-len_of_entries
ghost-len_of_entries g a = g.known.0
