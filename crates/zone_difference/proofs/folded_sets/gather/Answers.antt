-- A record of the RRset is kept, one before it is passed, and the first after it ends the walk.
use Rattle.std.proofs.Common.{Less, None, ◌∷◌, ◌≡◌, ap, arith, refl, sym, subst}
use Rattle.zone_rdata.specs.Lent.{record_of}
use Rattle.zone_set.specs.Order.{Ascends, canonical_cmp}
use Rattle.zone_difference.proofs.Gathering.{gathered_at, gathers, one_kept, one_passed}
use Rattle.zone_difference.specs.Folded.{IsGathering}
use Rattle.zone_difference.specs.Walk.{with_taken}
use Rattle.zone_difference.proofs.folded_sets.gather.Goals as goal

pub walk-init : goal.walk-init
walk-init c = record { gathering = gathers _ _ (record_of c.args.rr.now) _ refl c.requires.none; up = c.requires.up }

pub walk-preserved-then-are_of_one_rrset : goal.walk-preserved-then-are_of_one_rrset
walk-preserved-then-are_of_one_rrset c =
    let n = record_of c.in-Some.other in
    let r = record_of c.args.rr.now in
    let old = with_taken c.args.next.now c.args.rest.now in
    let e : with_taken c.walk.next c.walk.rest ≡ n ∷ c.walk.rest = ap (λ h. with_taken h c.walk.rest) (sym c.in-Some.ensures.value) in
    let up : Ascends (n ∷ c.walk.rest) = subst Ascends e c.walk.invariant.up in
    record {
      gathering = one_kept old c.walk.rest _ c.in-Some.other r c.walk.head c.walk.keys.keys _ (subst (λ l. IsGathering old l r c.walk.head c.walk.keys.keys) e c.walk.invariant.gathering) c.take_next.ensures
          (c.are_of_one_rrset.ensures.0 (let is = c.if-are_of_one_rrset.true in cc)) c.in_ok-keep_key.ensures;
      up = subst Ascends (sym c.take_next.ensures) up.1;
    }

pub returns-then-ne : goal.returns-then-ne
returns-then-ne c =
    let n = record_of c.in-Some.other in
    let r = record_of c.args.rr.now in
    let e : with_taken c.walk.next c.walk.rest ≡ n ∷ c.walk.rest = ap (λ h. with_taken h c.walk.rest) (sym c.in-Some.ensures.value) in
    let old = with_taken c.args.next.now c.args.rest.now in
    gathered_at old c.walk.rest (n ∷ c.walk.rest) n r c.walk.head c.walk.keys.keys (subst (λ l. IsGathering old l r c.walk.head c.walk.keys.keys) e c.walk.invariant.gathering) refl
    (subst Ascends e c.walk.invariant.up)
    (λ one. (let is = c.are_of_one_rrset.ensures.1 one in let other = c.if-are_of_one_rrset.false in cc))
    (λ less. (let is = c.order_of.ensures in grind (arith, is, less, c.ne.ensures, c.if-ne.true)))

pub walk-preserved : goal.walk-preserved
walk-preserved c =
    let n = record_of c.in-Some.other in
    let r = record_of c.args.rr.now in
    let old = with_taken c.args.next.now c.args.rest.now in
    let e : with_taken c.walk.next c.walk.rest ≡ n ∷ c.walk.rest = ap (λ h. with_taken h c.walk.rest) (sym c.in-Some.ensures.value) in
    let up : Ascends (n ∷ c.walk.rest) = subst Ascends e c.walk.invariant.up in
    let taken = c.take_next-else-are_of_one_rrset.ensures in
    let less : canonical_cmp n r ≡ Less = (let is = c.order_of.ensures in grind (arith, is, c.ne.ensures, c.if-ne.false)) in
    record {
      gathering = one_passed old c.walk.rest _ n r c.walk.head c.walk.keys.keys (subst (λ l. IsGathering old l r c.walk.head c.walk.keys.keys) e c.walk.invariant.gathering) taken less
          (λ one. (let is = c.are_of_one_rrset.ensures.1 one in let other = c.if-are_of_one_rrset.false in cc));
      up = subst Ascends (sym taken) up.1;
    }
