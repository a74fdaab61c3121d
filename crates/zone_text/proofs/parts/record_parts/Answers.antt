use Rattle.zone_rdata.specs.Item.{bare}
use Rattle.zone_text.proofs.Common.{ap, map, raw, sym, ◌∙◌, ◌∷◌}
use Rattle.zone_text.proofs.Heads.PartsLeft.{found_all, found_before, found_more}
use Rattle.zone_text.proofs.parts.record_parts.Goals as goal

pub returns-in_default-with : goal.returns-in_default-with
returns-in_default-with c =
    found_before _ _ _ c.loop-text.parts c.loop-text.invariant c.in-Some.ensures.found (rw c.in_default-with.is at c.with.ensures.none)

pub loop-text-preserved : goal.loop-text-preserved
loop-text-preserved c =
    let rest = rw c.in-Some-with.is at c.with.ensures.rest in
    found_more _ c.loop-text.parts _ _ c.loop-text.invariant (c.in-Some.ensures.found ∙ ap (λ t. bare c.in-Some.text.now ∷ map raw t) (sym rest)) (rw c.in-Some-with.is at c.with.ensures.found)

pub returns : goal.returns
returns c = found_all _ _ c.loop-text.invariant c.in_default.ensures.none
