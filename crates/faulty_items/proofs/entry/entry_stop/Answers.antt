use Rattle.faulty_items.proofs.Common.{None, false, map, raw, refl, slice_get}
use Rattle.zone_words.specs.Entry.{touching_items}
use Rattle.faulty_items.proofs.EntryParts.{are_read, none_stops, owned_stops, owner_stops, unowned_stops}
use Rattle.faulty_items.proofs.entry.entry_stop.Goals as goal

pub returns-in-Blank : goal.returns-in-Blank
returns-in-Blank c = λ tokens cut.
    let found = rw c.in-Some.is at (c.in_ok-all.ensures tokens cut) in
    none_stops c.args.origin.now c.args.held (slice_get c.args.entry.now 0) c.in-Some.all.items (touching_items false tokens) _ None
    (are_read (slice_get c.args.entry.now 0) c.in-Some.all.items _ _ _ (touching_items false tokens) _ found c.deref.ensures.value c.in_ok-items.ensures c.deref-2.ensures.value c.in-Blank.ensures) refl

pub returns-in-Directive : goal.returns-in-Directive
returns-in-Directive c = λ tokens cut.
    let found = rw c.in-Some.is at (c.in_ok-all.ensures tokens cut) in
    none_stops c.args.origin.now c.args.held (slice_get c.args.entry.now 0) c.in-Some.all.items (touching_items false tokens) _ _
    (are_read (slice_get c.args.entry.now 0) c.in-Some.all.items _ _ _ (touching_items false tokens) _ found c.deref.ensures.value c.in_ok-items.ensures c.deref-2.ensures.value c.in-Directive.ensures) c.item_of_directive.ensures

pub returns-then-not-is_owner : goal.returns-then-not-is_owner
returns-then-not-is_owner c = λ tokens cut.
    let found = rw c.in-Some.is at (c.in_ok-all.ensures tokens cut) in
    owner_stops c.args.origin.now c.args.held (slice_get c.args.entry.now 0) c.in-Some.all.items (touching_items false tokens) (raw c.in-Owned.owner) (map raw c.in-Owned.after.now)
    (are_read (slice_get c.args.entry.now 0) c.in-Some.all.items _ _ _ (touching_items false tokens) _ found c.deref.ensures.value c.in_ok-items.ensures c.deref-2.ensures.value c.in-Owned.ensures) (c.is_owner.ensures.no c.if-not-is_owner.true)

pub returns-in-Owned : goal.returns-in-Owned
returns-in-Owned c = λ tokens cut.
    let found = rw c.in-Some.is at (c.in_ok-all.ensures tokens cut) in
    owned_stops c.record_stop.result c.args.origin.now c.args.held (slice_get c.args.entry.now 0) c.in-Some.all.items _ (touching_items false tokens) (raw c.in-Owned.owner) (map raw c.in-Owned.after.now) c.deref-in-Owned.ensures.value
    (are_read (slice_get c.args.entry.now 0) c.in-Some.all.items _ _ _ (touching_items false tokens) _ found c.deref.ensures.value c.in_ok-items.ensures c.deref-2.ensures.value c.in-Owned.ensures) (c.is_owner.ensures.yes c.if-not-is_owner.false) c.record_stop.ensures

pub returns : goal.returns
returns c = λ tokens cut.
    let found = rw c.in-Some.is at (c.in_ok-all.ensures tokens cut) in
    unowned_stops c.record_stop-in-Unowned.result c.args.origin.now c.args.held (slice_get c.args.entry.now 0) c.in-Some.all.items _ (touching_items false tokens) (map raw c.in-Unowned.after.now) c.deref-in-Unowned.ensures.value
    (are_read (slice_get c.args.entry.now 0) c.in-Some.all.items _ _ _ (touching_items false tokens) _ found c.deref.ensures.value c.in_ok-items.ensures c.deref-2.ensures.value c.in-Unowned.ensures) c.record_stop-in-Unowned.ensures
