use Rattle.zone_set.proofs.Common.{ap, arith, length, records_of, refl, subst, ◌∙◌, ◌≡◌}
use Rattle.zone_set.proofs.Lists.Differing.{kept_octets, mark_of_quick, mark_of_whole}
use Rattle.zone_set.specs.Bounded.{kept_len}
use Rattle.zone_set.specs.Machine.Marks.{IsMark}
use Rattle.zone_set.proofs.kept_list.KeptList.next_mark.Goals as goal

pub returns-then-quick-clause-marked : goal.returns-then-quick-clause-marked
returns-then-quick-clause-marked c =
    subst (λ ps. IsMark c.mark_after.result (records_of ps)) c.self.view_is
    (mark_of_quick c.self.invariant c.mark_after.result _ _ c.as_slice-octets.result.now c.as_slice-entries.result.now c.split_at.result.0.now c.as_slice-octets.ensures.value c.as_slice-entries.ensures.value c.split_at.ensures.front (c.in_ok-quick.ensures c.if-quick.true) refl c.mark_after.ensures.is)

pub returns-then-quick-clause-below : goal.returns-then-quick-clause-below
returns-then-quick-clause-below c =
    let own : length c.self.inside.octets.items ≡ kept_len (records_of c.args.self.now) = kept_octets c.self.invariant ∙ ap (λ ps. kept_len (records_of ps)) c.self.view_is in
    omega (arith, own, ap length c.as_slice-octets.ensures.value, c.mark_after.ensures.below)

pub returns-then-whole-clause-marked : goal.returns-then-whole-clause-marked
returns-then-whole-clause-marked c =
    subst (λ ps. IsMark c.mark_after-then-whole.result (records_of ps)) c.self.view_is
    (mark_of_whole c.self.invariant c.mark_after-then-whole.result _ c.as_slice-octets.result.now c.as_slice-entries.result.now c.as_slice-octets.ensures.value c.as_slice-entries.ensures.value (c.in_ok-whole.ensures c.if-whole.true) refl c.mark_after-then-whole.ensures.is)

pub returns-then-whole-clause-below : goal.returns-then-whole-clause-below
returns-then-whole-clause-below c =
    let own : length c.self.inside.octets.items ≡ kept_len (records_of c.args.self.now) = kept_octets c.self.invariant ∙ ap (λ ps. kept_len (records_of ps)) c.self.view_is in
    omega (arith, own, ap length c.as_slice-octets.ensures.value, c.mark_after-then-whole.ensures.below)
