use Rattle.zone_set.proofs.Common.{arith, subst}
use Rattle.zone_set.proofs.Lists.Differing.{HasCounted, HasCounted-more, HasCounted-none, HasCounted-passed, HasDifferent-counted}
use Rattle.zone_set.proofs.distinct.has_different.Goals as goal

pub loop-entry-init : goal.loop-entry-init
loop-entry-init c base class each = HasCounted-none base class _ _ c.args.look c.in_ok-seen.seen each

pub loop-entry-preserved : goal.loop-entry-preserved
loop-entry-preserved c base class each =
    let had = subst (λ l. HasCounted base class c.args.octets.now c.args.entries.now c.args.look l c.loop-entry.count c.loop-entry.seen) c.in-Some.ensures.cases.0 (c.loop-entry.invariant base class each) in
    HasCounted-passed base class _ _ c.args.look c.in-Some.entry.now c.in-Some.rest.now c.loop-entry.count c.loop-entry.seen c.insert.new.self c.insert.ensures.stay had

pub loop-entry-preserved-else-count-least : goal.loop-entry-preserved-else-count-least
loop-entry-preserved-else-count-least c base class each =
    let had = subst (λ l. HasCounted base class c.args.octets.now c.args.entries.now c.args.look l c.loop-entry.count c.loop-entry.seen) c.in-Some.ensures.cases.0 (c.loop-entry.invariant base class each) in
    HasCounted-more base class _ _ c.args.look c.in-Some.entry.now c.in-Some.rest.now c.loop-entry.count c.loop-entry.seen c.insert.new.self c.insert.ensures.stay had
    c.number_of.result c.saturating_add-count.result c.span-record.result.now c.span-record.ensures c.number_of.ensures (c.insert.ensures.new c.if-insert.true) (c.insert.ensures.seen c.if-insert.true) (omega (arith, c.saturating_add-count.ensures))

pub returns-then-count-least : goal.returns-then-count-least
returns-then-count-least c _ base class each =
    let had = subst (λ l. HasCounted base class c.args.octets.now c.args.entries.now c.args.look l c.loop-entry.count c.loop-entry.seen) c.in-Some.ensures.cases.0 (c.loop-entry.invariant base class each) in
    HasDifferent-counted base class _ _ _ c.args.look c.saturating_add-count.result c.args.least c.insert.new.self
    (HasCounted-more base class _ _ c.args.look c.in-Some.entry.now c.in-Some.rest.now c.loop-entry.count c.loop-entry.seen c.insert.new.self c.insert.ensures.stay had
    c.number_of.result c.saturating_add-count.result c.span-record.result.now c.span-record.ensures c.number_of.ensures (c.insert.ensures.new c.if-insert.true) (c.insert.ensures.seen c.if-insert.true) (omega (arith, c.saturating_add-count.ensures)))
    (omega (arith, c.if-count-least.true))
