use Rattle.std.proofs.lemmas.Slice.{take-put_mid_below}
use Rattle.zone_set.proofs.Common.{AreNeighbours, IsEntry, IsPermutation-put_mid, IsPermutation-trans, arith, entry_record, length, length_permutation, map, subst, sym, ◌-◌}
use Rattle.zone_set.proofs.Lists.Looking.{AreNeighbours-joined, each_drop, each_take, take_rest}
use Rattle.zone_set.proofs.Lists.Repeats.{each_moved}
use Rattle.zone_set.proofs.bulk.put_many.Goals as goal

pub neighbour_order-requires : goal.neighbour_order-requires
neighbour_order-requires g c =
    let keyed = IsPermutation-put_mid c.args.run.start (length c.args.entries.now - c.args.run.start) c.args.entries.now c.sort_run.new.run c.sort_run.ensures in
    let P = IsEntry g.base c.args.class c.args.octets.now in
    each_take P _ _ (each_drop P _ _ (each_moved g.base c.args.class c.args.octets.now _ _ c.requires.0 keyed))

pub are_neighbours-requires : goal.are_neighbours-requires
are_neighbours-requires g c =
    let keyed = IsPermutation-put_mid c.args.run.start (length c.args.entries.now - c.args.run.start) c.args.entries.now c.sort_run.new.run c.sort_run.ensures in
    let sorted = IsPermutation-put_mid c.args.run.start _ _ c.sort_by_record.new.entries c.sort_by_record.ensures in
    let P = IsEntry g.base c.args.class c.args.octets.now in
    each_take P _ _ (each_drop P _ _ (each_moved g.base c.args.class c.args.octets.now _ _ c.requires.0 (IsPermutation-trans _ _ _ keyed sorted)))

pub returns-in-Some-Less-clause-moved : goal.returns-in-Some-Less-clause-moved
returns-in-Some-Less-clause-moved g c = IsPermutation-put_mid c.args.run.start (length c.args.entries.now - c.args.run.start) c.args.entries.now c.sort_run.new.run c.sort_run.ensures

pub returns-in-Some-Less-clause-next : goal.returns-in-Some-Less-clause-next
returns-in-Some-Less-clause-next g c = λ is others.
    let start = c.args.run.start in
    let es = c.args.entries.now in
    let f = entry_record c.args.class c.args.octets.now in
    AreNeighbours-joined f start c.saturating_sub-last.result _ c.saturating_sub-last.ensures
    (subst (λ l. AreNeighbours (map f l)) (sym (take-put_mid_below start (length es - start) es c.sort_run.new.run start (omega arith) c.requires.1.0)) others)
    (subst (λ l. AreNeighbours (map f l)) (take_rest c.saturating_sub-last.result _) (c.in-Some-Less.ensures c.in-Some-Less.field-0-is))

pub returns-in-Some-Greater-clause-moved : goal.returns-in-Some-Greater-clause-moved
returns-in-Some-Greater-clause-moved g c =
    let keyed = IsPermutation-put_mid c.args.run.start (length c.args.entries.now - c.args.run.start) c.args.entries.now c.sort_run.new.run c.sort_run.ensures in
    IsPermutation-trans _ _ _ keyed (IsPermutation-put_mid c.args.run.start _ _ c.sort_by_record.new.entries c.sort_by_record.ensures)

pub returns-in-Some-Greater-clause-next : goal.returns-in-Some-Greater-clause-next
returns-in-Some-Greater-clause-next g c = λ is others.
    let start = c.args.run.start in
    let es = c.args.entries.now in
    let f = entry_record c.args.class c.args.octets.now in
    let keyed = IsPermutation-put_mid start (length es - start) es c.sort_run.new.run c.sort_run.ensures in
    AreNeighbours-joined f start c.saturating_sub-last.result _ c.saturating_sub-last.ensures
    (subst (λ l. AreNeighbours (map f l)) (sym (take-put_mid_below start _ _ c.sort_by_record.new.entries start (omega arith) (rw (length_permutation _ _ keyed) c.requires.1.0)))
    (subst (λ l. AreNeighbours (map f l)) (sym (take-put_mid_below start (length es - start) es c.sort_run.new.run start (omega arith) c.requires.1.0)) others))
    (subst (λ l. AreNeighbours (map f l)) (take_rest c.saturating_sub-last.result _) (c.are_neighbours.ensures is))

pub returns-in-Some-Equal-clause-moved : goal.returns-in-Some-Equal-clause-moved
returns-in-Some-Equal-clause-moved g c = IsPermutation-put_mid c.args.run.start (length c.args.entries.now - c.args.run.start) c.args.entries.now c.sort_run.new.run c.sort_run.ensures

pub returns-in-Some-Equal-2-clause-moved : goal.returns-in-Some-Equal-2-clause-moved
returns-in-Some-Equal-2-clause-moved g c = IsPermutation-put_mid c.args.run.start (length c.args.entries.now - c.args.run.start) c.args.entries.now c.sort_run.new.run c.sort_run.ensures
