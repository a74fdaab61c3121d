-- The record is looked up among the keys of its RRset.
use Rattle.std.proofs.Common.{Err, Ok, Result}
use Rattle.std.specs.Prelude.{IfOk}
use Rattle.zone_difference.proofs.folded_sets.FoldedSets.has_alike.Goals as goal

if_ok : {A E : Type 0} (P Q : A → Type 0) (r : Result A E) → ((a : A) → P a → Q a) → IfOk r P → IfOk r Q
if_ok P Q (Ok a) f is = f a is
if_ok P Q (Err e) f is = is

pub returns : goal.returns
returns c =
    if_ok _ _ c.has_key.result (λ has found all others given.
    let turned = c.in_ok-turn_to.ensures all others given in
    let same = turned.1 found.0 found.1 in
    (turned.0, (λ is. same.0 (found.2.0 is), λ equal. found.2.1 (same.1 equal)))) c.has_key.ensures
