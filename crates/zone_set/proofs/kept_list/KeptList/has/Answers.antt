use Rattle.zone_set.proofs.Common.{Has, IsEntry, all_records, subst, sym, ◌∙◌}
use Rattle.zone_set.proofs.Lists.ListPush.{records_listed}
use Rattle.zone_set.proofs.Lists.Thinning.{has_entry}
use Rattle.zone_set.proofs.Storage.Heads.{next_holds, next_left}
use Rattle.zone_set.proofs.kept_list.KeptList.has.Goals as goal

pub record_at-requires-clause-stands : goal.record_at-requires-clause-stands
record_at-requires-clause-stands c =
    let l = c.self.inside in
    let next = c.in-Some.ensures.lookup in
    rw c.as_slice-in-Some.ensures.value (next_holds l.entries.items c.as_slice.result.now c.as_slice.ensures.value c.args.index c.in-Some.entry.now next.0 next.1 (IsEntry l.base l.class l.octets.items) c.self.invariant.each).linked.stands

pub returns-in-Some : goal.returns-in-Some
returns-in-Some c same =
    let is = sym (rw c.as_slice-in-Some.ensures.value at c.record_at.ensures) ∙ c.is_same.ensures.0 same in
    let l = c.self.inside in
    let next = c.in-Some.ensures.lookup in
    rw (← c.self.view_is, records_listed c.self.invariant)
    (subst (Has (all_records l.class l.octets.items l.entries.items)) is (has_entry l.class l.octets.items l.entries.items c.args.index c.in-Some.entry.now _ (next_left l.entries.items c.as_slice.result.now c.as_slice.ensures.value c.args.index c.in-Some.entry.now next.0 next.1)))
