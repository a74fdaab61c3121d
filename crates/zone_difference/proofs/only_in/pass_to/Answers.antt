-- Records before it are passed; the first that isn't is the record, or none of them is.
use Rattle.std.proofs.Common.{[], ◌∷◌, ◌≡◌, ap, false, inl, sym, subst, true}
use Rattle.std.specs.List.{AllByRecursion}
use Rattle.zone_rdata.specs.Lent.{record_of}
use Rattle.zone_rdata.specs.Record.{Record}
use Rattle.zone_set.specs.Order.{Ascends}
use Rattle.zone_set.specs.Zone.{Has}
use Rattle.zone_difference.proofs.Steps.{at_itself, first_passed, is_first, none_after}
use Rattle.zone_difference.specs.Walk.{with_taken}
use Rattle.zone_difference.proofs.only_in.pass_to.Goals as goal

pub walk-preserved : goal.walk-preserved
walk-preserved c =
    let r = record_of c.args.rr.now in
    let n = record_of c.in-Some.next in
    let rest = c.walk.others in
    let e : with_taken c.walk.other rest ≡ n ∷ rest = ap (λ h. with_taken h rest) (sym c.in-Some.ensures.value) in
    let f : with_taken c.take_next.result c.take_next.new.records ≡ rest = c.take_next.ensures in
    let up : Ascends (n ∷ rest) = subst Ascends e c.walk.invariant.up in
    record {
      up = subst Ascends (sym f) up.1;
      same = λ s at.
          let one = first_passed r n rest s (sym c.in-Less.ensures) at in
          let all = c.walk.invariant.same s at in (
            λ has. all.0 (subst (λ l. Has l s) (sym e) (one.0 (subst (λ l. Has l s) f has))),
            λ has. subst (λ l. Has l s) (sym f) (one.1 (subst (λ l. Has l s) e (all.1 has))),
          );
    }

pub returns-in-Equal-clause-has : goal.returns-in-Equal-clause-has
returns-in-Equal-clause-has c =
    let r = record_of c.args.rr.now in
    let n = record_of c.in-Some.next in
    let rest = c.walk.others in
    let e : with_taken c.walk.other rest ≡ n ∷ rest = ap (λ h. with_taken h rest) (sym c.in-Some.ensures.value) in
    let up : Ascends (n ∷ rest) = subst Ascends e c.walk.invariant.up in
    let all = c.walk.invariant.same r (at_itself r) in (
      λ is. all.0 (subst (λ l. Has l r) (sym e) (inl (sym (c.is_same-same.ensures.0 is)))),
      λ has. c.is_same-same.ensures.1 (is_first r n rest (sym c.in-Equal.ensures) up.0 (subst (λ l. Has l r) e (all.1 has))),
    )

pub returns-in-Greater-clause-has : goal.returns-in-Greater-clause-has
returns-in-Greater-clause-has c =
    let r = record_of c.args.rr.now in
    let n = record_of c.in-Some.next in
    let rest = c.walk.others in
    let e : with_taken c.walk.other rest ≡ n ∷ rest = ap (λ h. with_taken h rest) (sym c.in-Some.ensures.value) in
    let up : Ascends (n ∷ rest) = subst Ascends e c.walk.invariant.up in
    let all = c.walk.invariant.same r (at_itself r) in (
      λ bad. absurd (let wrong : false ≡ true = bad in cc),
      λ has. absurd (none_after r n rest (sym c.in-Greater.ensures) up.0 (subst (λ l. Has l r) e (all.1 has))),
    )

pub returns-clause-has : goal.returns-clause-has
returns-clause-has c =
    let r = record_of c.args.rr.now in
    let e : with_taken c.walk.other c.walk.others ≡ [] = ap (λ h. with_taken h c.walk.others) (sym c.in_default.ensures.value) in
    let all = c.walk.invariant.same r (at_itself r) in (
      λ bad. absurd (let wrong : false ≡ true = bad in cc),
      λ has. absurd (subst (λ l. Has l r) e (all.1 has)),
    )
