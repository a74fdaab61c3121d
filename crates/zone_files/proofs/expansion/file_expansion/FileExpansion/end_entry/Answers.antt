use Rattle.std.proofs.Common.{map}
use Rattle.zone_rdata.specs.Item.{raw}
use Rattle.zone_files.proofs.Expansions.Progressing.{octets_entered}
use Rattle.zone_files.proofs.expansion.file_expansion.FileExpansion.end_entry.Goals as goal

pub returns-clause-entered : goal.returns-clause-entered
returns-clause-entered c =
    octets_entered c.args.self.now.progress c.enter.new.self c.args.self.now.unfinished.octets (map raw c.entry_items.new.items.items) c.args.out.now.items c.enter.new.out.items
    (rw (c.octets-entry.ensures) at c.in_ok-entry_items.ensures.found)
    (rw (c.deref.ensures.value, c.octets-entry.ensures) at c.in_ok-enter.ensures)
