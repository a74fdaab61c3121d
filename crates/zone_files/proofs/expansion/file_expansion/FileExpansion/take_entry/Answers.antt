use Rattle.std.proofs.Common.{ap₂, map, refl, subst, sym, take-append-drop, ◌++◌, ◌∙◌}
use Rattle.zone_rdata.specs.Item.{raw}
use Rattle.zone_text.proofs.Entries.Begun.{none_left}
use Rattle.zone_text.specs.FirstEntry.{FirstIs}
use Rattle.zone_files.proofs.Expansions.Following.{broken_taken, ended_taken, open_taken, some_taken, whole_taken}
use Rattle.zone_files.proofs.expansion.file_expansion.FileExpansion.take_entry.Goals as goal

pub returns-in-Whole-clause-front : goal.returns-in-Whole-clause-front
returns-in-Whole-clause-front c =
    whole_taken c.args.self.now _ c.requires.going c.args.octets.now c.split_at.result.0.now c.split_at.result.1.now c.in-Whole.len (map raw c.first_entry.new.items.items) c.args.out.now.items c.enter.new.out.items
    (rw (c.octets.ensures) at (none_left c.octets.result.now _ c.is_empty.result refl c.is_empty.ensures c.if-is_empty.true))
    refl c.split_at.ensures.front c.split_at.ensures.back
    (subst (FirstIs c.args.octets.now (map raw c.first_entry.new.items.items)) c.in-Whole.is c.in_ok-len.ensures.found)
    (rw (c.deref.ensures.value) at c.in_ok-enter.ensures)

pub returns-in-Open-clause-front : goal.returns-in-Open-clause-front
returns-in-Open-clause-front c =
    some_taken c.args.self.now (record { alloc = c.args.self.now.alloc; progress = c.args.self.now.progress; unfinished = c.take.new.self }) c.args.octets.now c.split_at-2.result.0.now c.split_at-2.result.1.now c.split_at-3.result.1.now c.in_ok-taken.taken.len c.args.out.now.items c.args.out.now.items (sym (ap₂ (λ s t. s ++ t) c.split_at-2.ensures.front c.split_at-2.ensures.back ∙ take-append-drop _ c.args.octets.now)) c.in_ok-taken.ensures.taken.within c.split_at-3.ensures.back
    (open_taken c.args.self.now (record { alloc = c.args.self.now.alloc; progress = c.args.self.now.progress; unfinished = c.take.new.self }) c.requires.going c.split_at-2.result.0.now _ c.in_ok-taken.taken c.take.new.self c.in_ok-taken.ensures.taken refl c.args.out.now.items refl refl)

pub returns-in_ok-end_entry-in-Ended-clause-front : goal.returns-in_ok-end_entry-in-Ended-clause-front
returns-in_ok-end_entry-in-Ended-clause-front c =
    some_taken c.args.self.now c.end_entry.new.self c.args.octets.now c.split_at-2.result.0.now c.split_at-2.result.1.now c.split_at-3.result.1.now c.in_ok-taken.taken.len c.args.out.now.items c.end_entry.new.out.items (sym (ap₂ (λ s t. s ++ t) c.split_at-2.ensures.front c.split_at-2.ensures.back ∙ take-append-drop _ c.args.octets.now)) c.in_ok-taken.ensures.taken.within c.split_at-3.ensures.back
    (ended_taken c.args.self.now c.end_entry.new.self c.requires.going c.split_at-2.result.0.now _ c.in_ok-taken.taken c.take.new.self c.in_ok-taken.ensures.taken refl c.args.out.now.items c.end_entry.new.out.items c.in-Ended.is c.in_ok-end_entry-in-Ended.ensures.entered c.in_ok-end_entry-in-Ended.ensures.none)

pub returns-in_ok-break_off-in-Broken-clause-front : goal.returns-in_ok-break_off-in-Broken-clause-front
returns-in_ok-break_off-in-Broken-clause-front c =
    some_taken c.args.self.now c.break_off.new.self c.args.octets.now c.split_at-2.result.0.now c.split_at-2.result.1.now c.split_at-3.result.1.now c.in_ok-taken.taken.len c.args.out.now.items c.break_off.new.out.items (sym (ap₂ (λ s t. s ++ t) c.split_at-2.ensures.front c.split_at-2.ensures.back ∙ take-append-drop _ c.args.octets.now)) c.in_ok-taken.ensures.taken.within c.split_at-3.ensures.back
    (broken_taken c.args.self.now c.break_off.new.self c.requires.going c.split_at-2.result.0.now _ c.in_ok-taken.taken c.take.new.self c.in_ok-taken.ensures.taken refl c.args.out.now.items c.break_off.new.out.items _ c.in-Broken.is c.in_ok-break_off-in-Broken.ensures.broken c.in_ok-break_off-in-Broken.ensures.pushed)
