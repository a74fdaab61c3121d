use Rattle.zone_text.proofs.Common.{err_from_is_err_and, refl, rules}
use Rattle.zone_text.proofs.Heads.WordsLeft.{item_at, next_part, read_fault, read_to, some_of}
use Rattle.zone_text.proofs.words.words_of.Goals as goal

pub returns-in_default-clause-found : goal.returns-in_default-clause-found
returns-in_default-clause-found c =
    read_to _ _ _ _ _ c.loop-index.invariant (item_at _ _ _ _ c.loop-index-test.true c.in_default.is) (λ words have. refl)

pub returns-in_err-next-clause-fault : goal.returns-in_err-next-clause-fault
returns-in_err-next-clause-fault c =
    let p = err_from_is_err_and c.from_residual.result c.from_residual.ensures.1 in
    rw (p.1, p.2) (read_fault _ _ _ _ _ _ c.loop-index.invariant (item_at _ _ _ _ c.loop-index-test.true c.in-Bare.is) c.in_err-next.ensures.fault)

pub returns-in_default-2-clause-found : goal.returns-in_default-2-clause-found
returns-in_default-2-clause-found c =
    read_to _ _ _ _ _ c.loop-index.invariant (item_at _ _ _ _ c.loop-index-test.true c.in-Bare.is) (rw c.in_default-2.is at c.in_ok-next.ensures.none)

pub loop-index-preserved : goal.loop-index-preserved
loop-index-preserved c =
    (search (rules, some_of, next_part, (item_at _ _ _ _ c.loop-index-test.true c.in-Bare.is), (rw c.in-Some.is at c.in_ok-next.ensures.found)))
