use Rattle.zone_name.proofs.Common.{◌∙◌, sym, arith, rules}
use Rattle.zone_name.proofs.InOctets.Octets.{next_label}
use Rattle.zone_name.proofs.labels.LabelsIterator.next.Goals as goal

pub split_at-requires : goal.split_at-requires
split_at-requires c = (next_label _ c.in_ok-len.len.now c.in_ok-len.after.now c.in_ok-len.ensures.cases.0 c.self.invariant (omega arith)).fits

pub invariant_of-self : goal.invariant_of-self
invariant_of-self c =
    rw c.split_at.ensures.back (next_label _ c.in_ok-len.len.now c.in_ok-len.after.now c.in_ok-len.ensures.cases.0 c.self.invariant (omega arith)).rest

pub returns-clause-steps : goal.returns-clause-steps
returns-clause-steps c =
    let next = next_label _ c.in_ok-len.len.now c.in_ok-len.after.now c.in_ok-len.ensures.cases.0 c.self.invariant (omega arith) in
    rw (c.split_at.ensures.back, c.split_at.ensures.front) (sym c.self.view_is ∙ next.cut)

pub returns-clause-goes : goal.returns-clause-goes
returns-clause-goes c = rw (returns-clause-steps c) (search rules)
