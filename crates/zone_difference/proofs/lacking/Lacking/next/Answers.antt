-- A record of which the other zone has an equal is passed; the first of which it has none is returned.
use Rattle.std.proofs.Common.{[], ◌∷◌, ◌≡◌, arith, inl, inr, refl, sym, subst}
use Rattle.std.proofs.lemmas.Result.{err_from_is_err_and}
use Rattle.zone_rdata.specs.Lent.{record_of}
use Rattle.zone_set.specs.Zone.{Has}
use Rattle.zone_difference.proofs.Without.{one_with, one_without}
use Rattle.zone_difference.specs.Difference.{HasEqual}
use Rattle.zone_difference.specs.Lacked.{IsFoldedTo}
use Rattle.zone_difference.specs.Walk.{AreWithout}
use Rattle.zone_difference.proofs.lacking.Lacking.next.Goals as goal

pub next-requires : goal.next-requires
next-requires c =
    let left = c.walk.invariant.ends c.requires.0 c.requires.1 c.requires.2 c.requires.3 in
    (left.exact, left.to_come)

pub has_equal-requires : goal.has_equal-requires
has_equal-requires c =
    let left = c.walk.invariant.ends c.requires.0 c.requires.1 c.requires.2 c.requires.3 in
    let taken = c.in-Some.ensures.taken left.exact left.to_come in
    (c.requires.0, c.requires.1, taken.0, subst (IsFoldedTo c.requires.0 c.requires.1 c.walk.self.folded) taken.1 left.folded)

pub returns-in_err-has_equal-clause-fails : goal.returns-in_err-has_equal-clause-fails
returns-in_err-has_equal-clause-fails c =
    let p = err_from_is_err_and c.from_residual.result c.from_residual.ensures.1 in
    rw p.1 (λ case all only given.
    let left = c.walk.invariant.ends case all only given in
    let taken = c.in-Some.ensures.taken left.exact left.to_come in
    c.in_err-has_equal.ensures.fails case all taken.0 (subst (IsFoldedTo case all c.walk.self.folded) taken.1 left.folded))

pub returns-then-not-branch-clause-taken : goal.returns-then-not-branch-clause-taken
returns-then-not-branch-clause-taken c case all only given =
    let r = record_of c.in-Some.rr in
    let left = c.walk.invariant.ends case all only given in
    let taken = c.in-Some.ensures.taken left.exact left.to_come in
    let equal = c.in_ok-has_equal.ensures.equal case all taken.0 (subst (IsFoldedTo case all c.walk.self.folded) taken.1 left.folded) (left.lacked r (subst (λ l. Has l r) (sym taken.1) (inl refl))) in
    let found = one_with (HasEqual case all) r taken.0 only (λ has. (let is = equal.1.1 has in let other = c.if-not-branch.true in cc)) (subst (λ l. AreWithout (HasEqual case all) l only) taken.1 left.are) in (
      found.0,
      found.1,
      record {
        exact = taken.0;
        to_come = taken.2;
        lacked = λ q has. left.lacked q (subst (λ l. Has l q) (sym taken.1) (inr has));
        are = found.2;
        folded = equal.0;
      },
    )

pub walk-preserved : goal.walk-preserved
walk-preserved c =
    let r = record_of c.in-Some.rr in
    record {
      ends = λ case all only given.
          let left = c.walk.invariant.ends case all only given in
          let taken = c.in-Some.ensures.taken left.exact left.to_come in
          let equal = c.in_ok-has_equal.ensures.equal case all taken.0 (subst (IsFoldedTo case all c.walk.self.folded) taken.1 left.folded) (left.lacked r (subst (λ l. Has l r) (sym taken.1) (inl refl))) in
          record {
            exact = taken.0;
            to_come = taken.2;
            lacked = λ q has. left.lacked q (subst (λ l. Has l q) (sym taken.1) (inr has));
            are = one_without (HasEqual case all) r taken.0 only (equal.1.0 (let is = c.if-not-branch.false in cc)) (subst (λ l. AreWithout (HasEqual case all) l only) taken.1 left.are);
            folded = equal.0;
          };
      fewer = omega (arith, c.in-Some.ensures.fewer, c.walk.invariant.fewer);
    }

pub returns-clause-taken : goal.returns-clause-taken
returns-clause-taken c case all only given =
    let left = c.walk.invariant.ends case all only given in
    subst (λ l. AreWithout (HasEqual case all) l only) (c.in_default.ensures.taken left.exact left.to_come) left.are
