-- Nothing speaks against a record that gets as far as its place, but the TTL of its set.
use Rattle.zone_set.proofs.Common.{List, refl, ◌∙◌, false≢true, err_from_is_err_and, joined, Record, all_records, record_of}
use Rattle.zone_set.proofs.Holding.Adding.{accepted, added, holds_for, on_err, one_class, refused_put, seen, KeepsSets-unchanged, KeepsSets-with}
use Rattle.zone_set.specs.Builder.{OtherClass, OtherSoa, class as by_class, fault, soa as by_soa}
use Rattle.zone_rdata.specs.declared.fault.Fault.TheVariants.{ClassMismatch, MultipleSoa}
use Rattle.zone_set.proofs.sets.ZoneBuilder.hold.Goals as goal
use Rattle.zone_set.proofs.sets.ZoneBuilder.hold.Goals.{After-settle_base}

pub returns-then-has_other_class-clause-refused : goal.returns-then-has_other_class-clause-refused
returns-then-has_other_class-clause-refused c = fault ClassMismatch (by_class (c.if-has_other_class.ensures.0 refl))

pub returns-then-has_other_soa-clause-refused : goal.returns-then-has_other_soa-clause-refused
returns-then-has_other_soa-clause-refused c = fault MultipleSoa (by_soa (λ other. false≢true (c.if-has_other_class.ensures.1 other)) (c.if-has_other_soa.ensures.0 refl))

abbrev r : After-settle_base → Record
r c = record_of c.args.rr.now

abbrev Old : After-settle_base → List Record
Old c = all_records c.self.inside.class c.self.inside.octets.items (joined c.self.inside.entries)

no_class : (c : After-settle_base) → OtherClass (Old c) (r c) → ⊥
no_class c other = false≢true (c.if-has_other_class.ensures.1 (rw c.self.view_is at other))

no_soa : (c : After-settle_base) → OtherSoa (Old c) (r c) → ⊥
no_soa c other = false≢true (c.if-has_other_soa.ensures.1 (rw c.self.view_is at other))

pub put-requires-clause-holds : goal.put-requires-clause-holds
put-requires-clause-holds c =
    let p = (goal.at.put-requires-clause-holds c).After-settle_base in
    holds_for (joined c.self.inside.entries) c.self.invariant.holds (one_class c.self.inside.class c.self.inside.octets.items (joined c.self.inside.entries) (r p) (no_class p)) c.settle_base.ensures

pub invariant_of-self : goal.invariant_of-self
invariant_of-self c =
    let p = (goal.at.invariant_of-self c).After-settle_base in
    KeepsSets-unchanged (r p) c.self.invariant (no_class p) (no_soa p) c.settle_base.new.base c.put.new.octets.items (joined c.put.new.entries) c.put.ensures.each c.in_err-is_new.ensures.unchanged

pub returns-in_err-is_new-clause-refused : goal.returns-in_err-is_new-clause-refused
returns-in_err-is_new-clause-refused c =
    let p = (goal.at.returns-in_err-is_new-clause-refused c).After-settle_base in
    let told = err_from_is_err_and c.from_residual.result c.from_residual.ensures.1 in
    rw (told.1, told.2, ← c.self.view_is) (refused_put (r p) c.self.invariant (no_class p) (no_soa p) _ c.args.place c.in_err-is_new.ensures.refused)

pub returns-in_err-is_new-clause-unchanged : goal.returns-in_err-is_new-clause-unchanged
returns-in_err-is_new-clause-unchanged c =
    let p = (goal.at.returns-in_err-is_new-clause-unchanged c).After-settle_base in
    on_err c.from_residual.result (c.in_err-is_new.ensures.unchanged ∙ seen (r p) c.self.invariant (no_class p) (no_soa p) ∙ c.self.view_is)

pub invariant_of-self-2 : goal.invariant_of-self-2
invariant_of-self-2 c =
    let p = (goal.at.invariant_of-self-2 c).After-settle_base in
    KeepsSets-with (r p) c.self.invariant (no_class p) (no_soa p) c.in_ok-is_new.ensures.one_ttl c.known.ensures c.settle_base.new.base c.put.new.octets.items (joined c.put.new.entries) c.in_ok-is_new.is_new c.put.ensures.each c.in_ok-is_new.ensures.told c.octets_with-self-inside.result c.octets_with-self-inside.ensures

pub returns-clause-accepted : goal.returns-clause-accepted
returns-clause-accepted c =
    let p = (goal.at.returns-clause-accepted c).After-settle_base in
    rw (← c.self.view_is) (accepted (r p) c.self.invariant (no_class p) (no_soa p) c.in_ok-is_new.ensures.one_ttl c.known.ensures c.settle_base.new.base c.put.new.octets.items (joined c.put.new.entries) c.in_ok-is_new.is_new c.put.ensures.each c.in_ok-is_new.ensures.told)

pub returns-clause-taken : goal.returns-clause-taken
returns-clause-taken c =
    let p = (goal.at.returns-clause-taken c).After-settle_base in
    rw (← c.self.view_is) (added (r p) c.self.invariant (no_class p) (no_soa p) c.in_ok-is_new.ensures.one_ttl c.known.ensures c.settle_base.new.base c.put.new.octets.items (joined c.put.new.entries) c.in_ok-is_new.is_new c.put.ensures.each c.in_ok-is_new.ensures.told)
