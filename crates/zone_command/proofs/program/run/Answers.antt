use Rattle.std.proofs.KnownBytes.{Keeps-refl}
use Rattle.zone_command.proofs.Running.{normalises, normalise_stopped, explains_input, explain_stopped, compares, compare_stopped, few_of_first, few_of_second}
use Rattle.zone_command.proofs.program.run.Goals as goal

pub returns-in-Ok-clause-ran : goal.returns-in-Ok-clause-ran
returns-in-Ok-clause-ran g c =
    rw c.in-Normalise.is (normalises c.in-Normalise.origin _ c.with_origin.ensures _ _ _ c.in-Ok.ensures.accepted c.in-Ok.ensures.read c.in-Ok.ensures.works (Keeps-refl _, λ w. w) (Keeps-refl _, λ w. w))

pub returns-in-Err-clause-ran : goal.returns-in-Err-clause-ran
returns-in-Err-clause-ran g c =
    rw c.in-Normalise.is (normalise_stopped c.in-Normalise.origin _ c.with_origin.ensures _ _ c.in-Err.stop _ c.in-Err.ensures.stopped c.in-Err.ensures.read (Keeps-refl _, λ w. w) c.report.ensures)

pub returns-in-Ok-explain-clause-ran : goal.returns-in-Ok-explain-clause-ran
returns-in-Ok-explain-clause-ran g c =
    rw c.in-Explain.is (explains_input c.in-Explain.origin _ c.with_origin-in-Explain.ensures _ _ _ c.in-Ok-explain.ensures.explained c.in-Ok-explain.ensures.whole c.in-Ok-explain.ensures.works (Keeps-refl _, λ w. w) (Keeps-refl _, λ w. w))

pub returns-in-Err-explain-clause-ran : goal.returns-in-Err-explain-clause-ran
returns-in-Err-explain-clause-ran g c =
    rw c.in-Explain.is (explain_stopped c.in-Explain.origin _ c.with_origin-in-Explain.ensures _ _ c.in-Err-explain.stop _ c.in-Err-explain.ensures.stopped c.in-Err-explain.ensures.failed (Keeps-refl _, λ w. w) c.report-in-Err-explain.ensures)

pub returns-in-Ok-compare-clause-ran : goal.returns-in-Ok-compare-clause-ran
returns-in-Ok-compare-clause-ran g c =
    rw c.in-Compare.is (compares c.in-Compare.one c.in-Compare.other _ _ c.with_origin-in-Compare.ensures c.with_origin-in-Compare-2.ensures _ _ c.in-Ok-compare.verdict _ c.in-Ok-compare.ensures.compared c.in-Ok-compare.ensures.read c.answer_verdict.ensures)

pub returns-in-Err-compare-clause-ran : goal.returns-in-Err-compare-clause-ran
returns-in-Err-compare-clause-ran g c =
    rw c.in-Compare.is (compare_stopped c.in-Compare.one c.in-Compare.other _ _ c.with_origin-in-Compare.ensures c.with_origin-in-Compare-2.ensures _ _ c.in-Err-compare.which c.in-Err-compare.stop _ _ c.in-Err-compare.ensures.stopped (Keeps-refl _, λ w. w) c.words.ensures c.report-in-Err-compare.ensures)

pub returns-in-Err-compare-clause-first : goal.returns-in-Err-compare-clause-first
returns-in-Err-compare-clause-first g c =
    few_of_first _ _ _ _ _ _ c.in-Err-compare.which c.in-Err-compare.stop c.in-Err-compare.ensures.stopped

pub returns-in-Err-compare-clause-second : goal.returns-in-Err-compare-clause-second
returns-in-Err-compare-clause-second g c =
    rw c.in-Compare.is (few_of_second _ _ _ _ _ _ c.in-Err-compare.which c.in-Err-compare.stop c.in-Err-compare.ensures.stopped)
