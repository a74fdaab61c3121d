use Rattle.std.proofs.Common.{arith, sym, ◌∙◌}
use Rattle.std.proofs.lemmas.List.{nil_from_length}
use Rattle.std.proofs.lemmas.Result.{IfOk-weaker}
use Rattle.zone_files.proofs.ExpandedLoads.{broken_denotes, denotes_judged, ended_denotes, faulty_denotes, judged_broken, judged_ended, judged_faulty, judged_lacking, lacking_denotes}
use Rattle.zone_files.proofs.stack.expanded_loader.loaded.Goals as goal

pub returns-then-outer_files-eq0-clause-zone : goal.returns-then-outer_files-eq0-clause-zone
returns-then-outer_files-eq0-clause-zone c =
    IfOk-weaker c.whole.result _ _
    (λ z denotes lines directory name origin fed text st loads. ended_denotes c.args.stack.now c.args.loader z denotes lines directory name origin fed text st loads (sym c.status.ensures ∙ c.in-Ended.is) (nil_from_length _ (omega (arith, c.outer_files.ensures, c.if-outer_files-eq0.true))))
    c.whole.ensures.zone

pub returns-in-BrokenOff-clause-zone : goal.returns-in-BrokenOff-clause-zone
returns-in-BrokenOff-clause-zone c =
    IfOk-weaker c.whole-in-BrokenOff.result _ _
    (λ z denotes lines directory name origin fed text st loads. broken_denotes c.args.stack.now c.args.loader z denotes lines directory name origin fed text st loads (sym c.status.ensures ∙ c.in-BrokenOff.is))
    c.whole-in-BrokenOff.ensures.zone

pub returns-in-Faulty-clause-zone : goal.returns-in-Faulty-clause-zone
returns-in-Faulty-clause-zone c =
    IfOk-weaker c.faulty.result _ _
    (λ z denotes lines directory name origin fed text st loads. faulty_denotes c.args.stack.now c.args.loader z denotes lines directory name origin fed text st loads c.in-Faulty.fault (sym c.status.ensures ∙ c.in-Faulty.is))
    c.faulty.ensures.zone

pub returns-in-FaultyAt-clause-zone : goal.returns-in-FaultyAt-clause-zone
returns-in-FaultyAt-clause-zone c =
    IfOk-weaker c.faulty-in-FaultyAt.result _ _
    (λ z denotes lines directory name origin fed text st loads. lacking_denotes c.args.stack.now c.args.loader z denotes lines directory name origin fed text st loads c.in-FaultyAt.field-0 (sym c.status.ensures ∙ c.in-FaultyAt.is))
    c.faulty-in-FaultyAt.ensures.zone

pub returns-then-outer_files-eq0-clause-accepted : goal.returns-then-outer_files-eq0-clause-accepted
returns-then-outer_files-eq0-clause-accepted c =
    IfOk-weaker c.whole.result _ _
    (λ z denotes. denotes_judged c.args.stack.now c.args.loader z (λ text. judged_ended c.args.stack.now text (sym c.status.ensures ∙ c.in-Ended.is) (nil_from_length _ (omega (arith, c.outer_files.ensures, c.if-outer_files-eq0.true)))) denotes)
    c.whole.ensures.zone

pub returns-in-BrokenOff-clause-accepted : goal.returns-in-BrokenOff-clause-accepted
returns-in-BrokenOff-clause-accepted c =
    IfOk-weaker c.whole-in-BrokenOff.result _ _
    (λ z denotes. denotes_judged c.args.stack.now c.args.loader z (λ text. judged_broken c.args.stack.now text (sym c.status.ensures ∙ c.in-BrokenOff.is)) denotes)
    c.whole-in-BrokenOff.ensures.zone

pub returns-in-Faulty-clause-accepted : goal.returns-in-Faulty-clause-accepted
returns-in-Faulty-clause-accepted c =
    IfOk-weaker c.faulty.result _ _
    (λ z denotes. denotes_judged c.args.stack.now c.args.loader z (λ text. judged_faulty c.args.stack.now text c.in-Faulty.fault (sym c.status.ensures ∙ c.in-Faulty.is)) denotes)
    c.faulty.ensures.zone

pub returns-in-FaultyAt-clause-accepted : goal.returns-in-FaultyAt-clause-accepted
returns-in-FaultyAt-clause-accepted c =
    IfOk-weaker c.faulty-in-FaultyAt.result _ _
    (λ z denotes. denotes_judged c.args.stack.now c.args.loader z (λ text. judged_lacking c.args.stack.now text c.in-FaultyAt.field-0 (sym c.status.ensures ∙ c.in-FaultyAt.is)) denotes)
    c.faulty-in-FaultyAt.ensures.zone
