use Rattle.std.proofs.Common.{[], ap, map, ◌++◌, ◌∙◌, ◌∷◌}
use Rattle.zone_rdata.specs.Item.{raw}
use Rattle.zone_files.proofs.Expansions.Progressing.{last_entered}
use Rattle.zone_files.proofs.expansion.file_expansion.FileExpansion.end_last.Goals as goal

pub returns-clause-entered : goal.returns-clause-entered
returns-clause-entered c =
    last_entered c.args.self.now.progress c.enter.new.self c.args.self.now.unfinished.octets c.push.new.self.items (map raw c.entry_items.new.items.items) c.args.out.now.items c.enter.new.out.items
    (c.in_ok-push.ensures.items ∙ ap (λ t. t ++ 10 ∷ []) (c.in_ok-extend_from_slice.ensures.items ∙ ap (λ t. t ++ c.octets-held.result.now) c.new-entry.ensures.items ∙ c.octets-held.ensures))
    (rw (c.octets-held.ensures) at c.in_ok-entry_items.ensures.found)
    (rw (c.deref.ensures.value, c.deref-2.ensures.value) at c.in_ok-enter.ensures)
