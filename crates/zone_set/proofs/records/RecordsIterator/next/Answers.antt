-- The next head is that of the first record that is left.
use Rattle.zone_set.proofs.Storage.Heads.{next_holds}
use Rattle.zone_set.proofs.records.RecordsIterator.next.Goals as goal

pub record_after-requires-clause-stands : goal.record_after-requires-clause-stands
record_after-requires-clause-stands c =
    let next = c.in_ok-head.ensures.lookup in
    (next_holds _ _ c.as_slice.ensures.value _ _ next.0 next.1 _ c.read_ahead-self-inside.ensures.seen).stands

pub record_after-requires-clause-whole : goal.record_after-requires-clause-whole
record_after-requires-clause-whole c =
    let next = c.in_ok-head.ensures.lookup in
    (next_holds _ _ c.as_slice.ensures.value _ _ next.0 next.1 _ c.read_ahead-self-inside.ensures.seen).whole

pub record_after-requires-clause-head : goal.record_after-requires-clause-head
record_after-requires-clause-head c =
    let next = c.in_ok-head.ensures.lookup in
    (next_holds _ _ c.as_slice.ensures.value _ _ next.0 next.1 _ c.read_ahead-self-inside.ensures.seen).head
