use Rattle.std.proofs.Common.{◌≡◌, IsOkAnd, Ok, length, refl, rules, subst, sym}
use Rattle.std.proofs.lemmas.Iterator.Adapters.{YieldsList-from_vec, fact_from_collect}
use Rattle.std.specs.Prelude.{vec_len}
use Rattle.std.specs.Vec.Iter.{into_iter_items, into_iter_len}
use Rattle.command_line.proofs.given.words_of.Goals as goal

pub returns-in_ok-collect-in-Ok-clause-words : goal.returns-in_ok-collect-in-Ok-clause-words
returns-in_ok-collect-in-Ok-clause-words c =
    let all = into_iter_items c.in-Ok.words in
    let counted : into_iter_len c.in-Ok.words ≡ length all = search rules in
    let kept = fact_from_collect {E = Unit {0}} {all = all} (λ xs v. (v.items ≡ xs) × (vec_len v ≡ length xs)) (Ok c.in_ok-collect-in-Ok.field-0) c.in_ok-collect-in-Ok.ensures.ran (YieldsList-from_vec all refl counted) in
    subst (λ g. IsOkAnd g (λ given. c.in_ok-collect-in-Ok.field-0.items ≡ into_iter_items given)) (sym c.in-Ok.is) kept.0
