use Rattle.zone_text.proofs.Common.{arith, refl, ◌≤◌}
use Rattle.zone_text.proofs.Heads.WordsLeft.{time_within, time_over}
use Rattle.zone_text.proofs.words.ttl_in.Goals as goal

pub returns-in-Some-clause-found : goal.returns-in-Some-clause-found
returns-in-Some-clause-found c =
    let short : c.in-Some.seconds ≤ 2147483647 = omega arith in
    record { time = time_within _ _ c.in-Some.ensures.found short; short = short }

pub returns-in_default-clause-fault : goal.returns-in_default-clause-fault
returns-in_default-clause-fault c = (refl, time_over _ c.in-Some.seconds c.in-Some.ensures.found (omega arith))

pub returns-in_default-2-clause-fault : goal.returns-in_default-2-clause-fault
returns-in_default-2-clause-fault c = (refl, λ value ttl. c.in_default.ensures.none value ttl.time)
