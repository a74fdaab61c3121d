use Rattle.zone_engine.proofs.Common.{err_from_is_err_and, refl, sym, subst, arith, false≢true, ◌≤◌, ◌<◌, length, canon, text_limit}
use Rattle.zone_engine.specs.FileLoader.{LoaderState, StandsForFed}
use Rattle.zone_engine.proofs.FileLoads.{stop_refuses, unrefused, zone_denoted, zone_too_large}
use Rattle.zone_engine.proofs.file_loader.FileLoader.finish.Goals as goal

pub returns-in_err-stated-clause-fault : goal.returns-in_err-stated-clause-fault
returns-in_err-stated-clause-fault c =
    let p = err_from_is_err_and c.from_residual.result c.from_residual.ensures.1 in
    rw (p.1, p.2) (λ origin fed stands.
    let loader : LoaderState = record { source = c.self.inside.source; listed = c.self.inside.taken.list; refusal = c.self.inside.taken.refusal; fed = c.self.inside.fed; failed = c.self.inside.has_failed } in
    stop_refuses loader c.finish.result c.in_err-stated.field-0.0 c.in_err-stated.was c.finish.ensures.refused c.in_err-stated.ensures.fault origin fed
    (subst (λ (s : LoaderState). StandsForFed origin s fed) (sym c.self.view_is) stands))

pub returns-then-not-text_fits-clause-fault : goal.returns-then-not-text_fits-clause-fault
returns-then-not-text_fits-clause-fault c = λ origin fed stands.
    let loader : LoaderState = record { source = c.self.inside.source; listed = c.self.inside.taken.list; refusal = c.self.inside.taken.refusal; fed = c.self.inside.fed; failed = c.self.inside.has_failed } in
    let never : length (canon c.in_ok-stated.stated) ≤ text_limit → ⊥ = λ short. false≢true (c.if-not-text_fits.ensures.1 short) in
    let long : text_limit < length (canon c.in_ok-stated.stated) = omega (arith, never) in
    zone_too_large loader c.in_ok-stated.stated (unrefused c.self.inside.taken.refusal c.finish.result c.in_ok-stated.stated c.finish.ensures.refused c.in_ok-stated.was) c.in_ok-stated.ensures.zone origin fed
    (subst (λ (s : LoaderState). StandsForFed origin s fed) (sym c.self.view_is) stands) long

pub returns-clause-zone : goal.returns-clause-zone
returns-clause-zone c = λ origin fed stands.
    let loader : LoaderState = record { source = c.self.inside.source; listed = c.self.inside.taken.list; refusal = c.self.inside.taken.refusal; fed = c.self.inside.fed; failed = c.self.inside.has_failed } in
    zone_denoted loader c.in_ok-stated.stated (unrefused c.self.inside.taken.refusal c.finish.result c.in_ok-stated.stated c.finish.ensures.refused c.in_ok-stated.was) c.in_ok-stated.ensures.zone origin fed
    (subst (λ (s : LoaderState). StandsForFed origin s fed) (sym c.self.view_is) stands) c.what_is_read_is_stated.ensures (c.if-not-text_fits.ensures.0 refl)
