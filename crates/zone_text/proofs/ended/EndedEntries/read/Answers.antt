use Rattle.std.proofs.lemmas.List.Sums.{count_by-le-length}
use Rattle.zone_text.proofs.Common.{map, raw, refl, slice_get, sym}
use Rattle.zone_text.proofs.Entries.EntryTaken.{lines_after, takes_entry}
use Rattle.zone_text.proofs.Entries.KeptEntry.{entry_kept}
use Rattle.zone_text.proofs.ended.EndedEntries.read.Goals as goal

pub returns : goal.returns
returns c are =
    takes_entry c.args.entry.now c.args.self.now _
    (λ origin before line tokens so_far cut.
    entry_kept origin before line c.args.entry.now tokens (map raw c.args.items.now) _ _ _ _ cut (are tokens cut)
    (c.in_ok-read.ensures origin before (record { line = line; first = slice_get c.args.entry.now 0; items = map raw c.args.items.now }) so_far (sym c.statement_of.ensures)))
    c.requires.undecided
    (lines_after c.args.entry.now c.args.self.now _ c.args.lines c.requires.count (rw c.requires.count (count_by-le-length _ c.args.entry.now)) refl)
