-- The record is looked up in its RRset.
use Rattle.std.proofs.Common.{◌∷◌, ◌≡◌, ◌↔◌, Err, IsTrue, Ok, Result, sym, subst}
use Rattle.std.specs.Prelude.{IfOk}
use Rattle.zone_rdata.specs.Lent.{record_of}
use Rattle.zone_difference.specs.Difference.{HasEqual}
use Rattle.zone_difference.specs.Lacked.{IsFoldedTo}
use Rattle.zone_difference.proofs.lacking.has_equal.Goals as goal

if_ok : {A E : Type 0} (P Q : A → Type 0) (r : Result A E) → ((a : A) → P a → Q a) → IfOk r P → IfOk r Q
if_ok P Q (Ok a) f is = f a is
if_ok P Q (Err e) f is = is

pub returns-else-not-may_have_names-clause-equal : goal.returns-else-not-may_have_names-clause-equal
returns-else-not-may_have_names-clause-equal c =
    if_ok _ _ c.has_alike.result (λ has looked case all wanted folded lacks.
    let kept = subst (λ o. IsFoldedTo case all o (record_of c.args.rr.now ∷ wanted)) c.in-Some.is folded in
    let got = looked all wanted kept.1 in
    ((kept.0, got.0), subst (λ k. IsTrue has ↔ HasEqual k all (record_of c.args.rr.now)) (sym kept.0) got.1)) c.has_alike.ensures
