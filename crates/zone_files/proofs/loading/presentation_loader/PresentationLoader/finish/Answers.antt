use Rattle.std.proofs.Common.{List, ℕ, ◌++◌, refl, sym, ap, subst}
use Rattle.zone_rdata.specs.FedSource.{is_finished}
use Rattle.zone_engine.specs.FileLoader.{StandsForFed}
use Rattle.zone_words.specs.declared.refusal.Refusals.{Refusals}
use Rattle.zone_files.specs.Loading.Fed.{LoadingState, StandsForPresentation}
use Rattle.zone_files.specs.Machine.Loading.{IsReportOf}
use Rattle.zone_files.specs.declared.loading.refusal.PresentationRefusal.{PresentationRefusal}
use Rattle.zone_files.proofs.Presenting.Loads.{stop_reported, too_long_reported, zone_denoted}
use Rattle.zone_files.proofs.Presenting.Reports.{Reported, report_is_of_bytes}
use Rattle.zone_files.proofs.loading.presentation_loader.PresentationLoader.finish.Goals as goal

pub returns-then-fed-gt-TEXT_LIMIT-clause-fault : goal.returns-then-fed-gt-TEXT_LIMIT-clause-fault
returns-then-fed-gt-TEXT_LIMIT-clause-fault c = λ origin fed stands.
    let state : LoadingState = record { rewriter = c.self.inside.rewriter; loader = c.self.inside.loader; fed = c.self.inside.fed; failed = c.self.inside.has_failed } in
    subst (λ (r : PresentationRefusal). Reported origin fed r) (sym c.of_stop-then-fed-gt-TEXT_LIMIT.ensures)
    (too_long_reported state c.if-fed-gt-TEXT_LIMIT.true origin fed (subst (λ (s : LoadingState). StandsForPresentation origin s fed) (sym c.self.view_is) stands))

pub returns-in-Ok-finish-clause-zone : goal.returns-in-Ok-finish-clause-zone
returns-in-Ok-finish-clause-zone c = λ origin fed stands.
    let state : LoadingState = record { rewriter = c.self.inside.rewriter; loader = c.self.inside.loader; fed = c.self.inside.fed; failed = c.self.inside.has_failed } in
    zone_denoted state c.finish.new.self c.feed.new.self c.if-fed-gt-TEXT_LIMIT.false c.in-Ok.ensures.stands (ap is_finished c.in-Ok.ensures.finished)
    (λ name given loads. subst (λ (written : List ℕ). StandsForFed name c.feed.new.self (given ++ written)) c.written.ensures (c.in-Ok-feed.ensures.stands name given loads))
    c.a_file_denotes_what_its_generic_form_denotes.ensures c.in-Ok-finish.zone c.in-Ok-finish.ensures.zone origin fed
    (subst (λ (s : LoadingState). StandsForPresentation origin s fed) (sym c.self.view_is) stands)

pub returns-clause-fault : goal.returns-clause-fault
returns-clause-fault c = λ origin fed stands.
    let state : LoadingState = record { rewriter = c.self.inside.rewriter; loader = c.self.inside.loader; fed = c.self.inside.fed; failed = c.self.inside.has_failed } in
    stop_reported state c.finish.new.self c.feed.new.self c.if-fed-gt-TEXT_LIMIT.false c.in-Ok.ensures.stands (ap is_finished c.in-Ok.ensures.finished)
    (λ name given loads. subst (λ (written : List ℕ). StandsForFed name c.feed.new.self (given ++ written)) c.written.ensures (c.in-Ok-feed.ensures.stands name given loads))
    c.rewriting_is_unique.ensures c.in-Err.stop c.of_first.result
    (subst (λ (told : Refusals). IsReportOf c.in-Err.stop told.first c.of_first.result) c.refusals.ensures c.of_first.ensures)
    c.in-Err.ensures.fault origin fed
    (subst (λ (s : LoadingState). StandsForPresentation origin s fed) (sym c.self.view_is) stands)

pub returns-clause-stopped : goal.returns-clause-stopped
returns-clause-stopped c = report_is_of_bytes c.in-Err.stop _ c.of_first.result c.of_first.ensures c.in-Err.ensures.stopped
