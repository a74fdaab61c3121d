-- The set is passed.
use Rattle.std.proofs.Common.{◌∷◌, ◌++◌, List, map, sym, subst, arith}
use Rattle.std.specs.List.{flat_map}
use Rattle.zone_rdata.specs.Lent.{record_of}
use Rattle.zone_rdata.specs.declared.lent.RrRef.{RrRef}
use Rattle.zone_digest.specs.Digest.{record_octets}
use Rattle.zone_digest.specs.Machine.Sets.{AreLowered, IsOfFirst}
use Rattle.zone_digest.specs.Machine.Walk.{IsWalked}
use Rattle.zone_digest.proofs.Steps.{flush, held_after}
use Rattle.zone_digest.proofs.digest.end_other_set.Goals as goal

pub returns-clause-walked : goal.returns-clause-walked
returns-clause-walked g c apex all rest one_class walked =
    let f = c.in_ok-add_set.ensures in
    let lowered = subst (λ s. AreLowered (map record_of s) f.0) c.as_slice-2.ensures.value f.1 in
    let passed = flush apex all (map record_of c.args.set.now.items) rest walked.0 f.0 (record_of c.args.rr.now) one_class walked.1 lowered (λ of. (
    let is = c.is_of_first.ensures.1 (subst (λ s. IsOfFirst (map record_of s) (record_of c.args.rr.now)) (sym {A = List RrRef} c.as_slice.ensures.value) of) in
    grind (arith, is, c.if-is_of_first.false))) in (
      walked.0 ++ f.0,
      subst (λ s. IsWalked apex all (map record_of s) (record_of c.args.rr.now ∷ rest) (walked.0 ++ f.0)) (sym {A = List RrRef} c.clear.ensures.items) passed,
      held_after (g.D.Digest.holds c.add_set.new.hasher) walked.0 f.0 (f.2 (flat_map record_octets walked.0) walked.2),
    )
