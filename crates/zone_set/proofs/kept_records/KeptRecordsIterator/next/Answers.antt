-- The record at the front is the first of those that are kept.
use Rattle.zone_set.proofs.Common.{rules, sym, ◌∙◌}
use Rattle.zone_set.proofs.Storage.Kept.{first_kept, none_left, passed, some_left}
use Rattle.zone_set.proofs.kept_records.KeptRecordsIterator.next.Goals as goal

pub returns-then-is_empty-clause-steps : goal.returns-then-is_empty-clause-steps
returns-then-is_empty-clause-steps c =
    let none = sym c.self.view_is ∙ none_left _ _ c.is_empty.ensures c.if-is_empty.true _ in
    (none, none)

pub record_at-rr-requires-clause-stands : goal.record_at-rr-requires-clause-stands
record_at-rr-requires-clause-stands c =
    (first_kept _ _ c.self.invariant.0 c.self.invariant.1 (some_left _ _ c.is_empty.ensures c.if-is_empty.false)).stands

pub record_at-rr-requires-clause-whole : goal.record_at-rr-requires-clause-whole
record_at-rr-requires-clause-whole c =
    (first_kept _ _ c.self.invariant.0 c.self.invariant.1 (some_left _ _ c.is_empty.ensures c.if-is_empty.false)).whole

pub invariant_of-self : goal.invariant_of-self
invariant_of-self c =
    let p = passed _ _ _ c.self.invariant.0 _ c.self.invariant.1 (some_left _ _ c.is_empty.ensures c.if-is_empty.false) c.record_at-rr.ensures (rw c.span.ensures at c.split_at.ensures.back) in
    (p.0, p.1)

pub returns-clause-steps : goal.returns-clause-steps
returns-clause-steps c =
    let p = passed _ _ _ c.self.invariant.0 _ c.self.invariant.1 (some_left _ _ c.is_empty.ensures c.if-is_empty.false) c.record_at-rr.ensures (rw c.span.ensures at c.split_at.ensures.back) in
    sym c.self.view_is ∙ p.2

pub returns-clause-goes : goal.returns-clause-goes
returns-clause-goes c =
    let steps = returns-clause-steps c in
    rw steps (search rules)
