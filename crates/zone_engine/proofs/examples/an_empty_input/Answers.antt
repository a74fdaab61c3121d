use Rattle.zone_engine.proofs.Common.{[], refl, arith, None, NoSoa, Whole, no_soa, unfinished, reading}
use Rattle.zone_text.specs.FileReads.{whole as by_whole}
use Rattle.zone_engine.proofs.Refusals.Deciding.{none_before}
use Rattle.zone_engine.proofs.examples.an_empty_input.Goals as goal

pub returns : goal.returns
returns c =
    reading [] None NoSoa Whole (omega arith)
    (by_whole [] (record { whole = refl; each = tt; follow = tt; balanced = refl }) (refl, refl))
    (unfinished NoSoa Whole none_before refl (no_soa (λ r has soa. has)))
