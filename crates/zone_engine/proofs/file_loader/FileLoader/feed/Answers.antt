use Rattle.zone_engine.proofs.Common.{arith, bytes_each, rules, sym, subst}
use Rattle.zone_engine.specs.FileLoader.{LoaderState, StandsForFed}
use Rattle.zone_engine.proofs.FileLoads.{fed_more, fed_too_long, kept_refusal}
use Rattle.zone_engine.proofs.file_loader.FileLoader.feed.Goals as goal

pub returns-then-fed-gt-TEXT_LIMIT-clause-stands : goal.returns-then-fed-gt-TEXT_LIMIT-clause-stands
returns-then-fed-gt-TEXT_LIMIT-clause-stands c =
    fed_too_long _ _ c.args.piece.now (bytes_each c.args.piece.now (λ i. omega (arith, c.type_inv.piece i))) (search rules) (search rules) (search rules) c.refuse.ensures

pub returns-in-Ok-clause-stands : goal.returns-in-Ok-clause-stands
returns-in-Ok-clause-stands c origin fed stands =
    let old : LoaderState = record { source = c.self.inside.source; listed = c.self.inside.taken.list; refusal = c.self.inside.taken.refusal; fed = c.self.inside.fed; failed = c.self.inside.has_failed } in
    fed_more old _ c.args.piece.now c.take.ensures.octets (search rules) (search rules) (search rules) c.what_is_decided_refuses.ensures
    (kept_refusal c.self.inside.taken c.take.new.self _ c.take.ensures.refused) c.in-Ok.ensures.taken origin fed
    (subst (λ (s : LoaderState). StandsForFed origin s fed) (sym c.self.view_is) stands)
