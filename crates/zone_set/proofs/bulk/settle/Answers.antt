use Rattle.zone_set.proofs.Common.{IsPermutation-refl, entry_record, is_repeat, length_permutation}
use Rattle.zone_set.proofs.Storage.MessageLens.{moved_whole}
use Rattle.zone_set.proofs.Lists.Repeats.{each_moved, each_left, same_left, AreCompatible-from_entries, SameRecords-moved}
use Rattle.zone_set.proofs.bulk.settle.Goals as goal

pub returns-then-are_neighbours-clause-compatible : goal.returns-then-are_neighbours-clause-compatible
returns-then-are_neighbours-clause-compatible g c = λ is.
    AreCompatible-from_entries g.base c.args.class c.args.octets.now c.args.entries.now.items c.requires (rw c.as_slice.ensures.value at (c.if-are_neighbours.ensures is))

pub returns-then-are_neighbours-clause-whole : goal.returns-then-are_neighbours-clause-whole
returns-then-are_neighbours-clause-whole g c = λ same. IsPermutation-refl c.args.entries.now.items

pub returns-then-sort_and_look-clause-each : goal.returns-then-sort_and_look-clause-each
returns-then-sort_and_look-clause-each g c = each_moved g.base c.args.class c.args.octets.now _ _ c.requires c.sort_and_look.ensures.moved

pub returns-then-sort_and_look-clause-same : goal.returns-then-sort_and_look-clause-same
returns-then-sort_and_look-clause-same g c = SameRecords-moved (entry_record c.args.class c.args.octets.now) _ _ c.sort_and_look.ensures.moved

pub returns-then-sort_and_look-clause-compatible : goal.returns-then-sort_and_look-clause-compatible
returns-then-sort_and_look-clause-compatible g c = λ is.
    AreCompatible-from_entries g.base c.args.class c.args.octets.now c.sort_and_look.new.entries.items (each_moved g.base c.args.class c.args.octets.now _ _ c.requires c.sort_and_look.ensures.moved) (c.if-sort_and_look.ensures.next is)

pub returns-then-sort_and_look-clause-whole : goal.returns-then-sort_and_look-clause-whole
returns-then-sort_and_look-clause-whole g c = λ same. c.sort_and_look.ensures.moved

pub are_neighbours-requires-2 : goal.are_neighbours-requires-2
are_neighbours-requires-2 g c =
    rw c.as_slice-2.ensures.value (each_left g.base c.args.class c.args.octets.now c.args.entries.now.items c.sort_and_look.new.entries.items c.drop_repeats.new.entries.items c.requires c.sort_and_look.ensures.moved c.drop_repeats.ensures)

pub returns-clause-each : goal.returns-clause-each
returns-clause-each g c = each_left g.base c.args.class c.args.octets.now c.args.entries.now.items c.sort_and_look.new.entries.items c.drop_repeats.new.entries.items c.requires c.sort_and_look.ensures.moved c.drop_repeats.ensures

pub returns-clause-same : goal.returns-clause-same
returns-clause-same g c = same_left g.base c.args.class c.args.octets.now c.args.entries.now.items c.sort_and_look.new.entries.items c.drop_repeats.new.entries.items c.requires c.sort_and_look.ensures.moved c.drop_repeats.ensures

pub returns-clause-compatible : goal.returns-clause-compatible
returns-clause-compatible g c = λ is.
    AreCompatible-from_entries g.base c.args.class c.args.octets.now c.drop_repeats.new.entries.items
    (each_left g.base c.args.class c.args.octets.now c.args.entries.now.items c.sort_and_look.new.entries.items c.drop_repeats.new.entries.items c.requires c.sort_and_look.ensures.moved c.drop_repeats.ensures)
    (rw c.as_slice-2.ensures.value at (c.are_neighbours-2.ensures is))

pub returns-clause-whole : goal.returns-clause-whole
returns-clause-whole g c =
    moved_whole (is_repeat c.args.octets.now) c.args.entries.now.items c.sort_and_look.new.entries.items c.drop_repeats.new.entries.items c.sort_and_look.ensures.moved
    (length_permutation _ _ c.sort_and_look.ensures.moved) c.drop_repeats.ensures
