-- the verdict on both zones, or the first input that denotes none
use Rattle.zone_engine.specs.declared.comparison.Which.TheVariants.{First, Second}
use Rattle.zonenorm_c.specs.Compare.{judged, no_zone}
use Rattle.zonenorm_c.proofs.comparing.zones_reply.Goals as goal

pub returns-in-Err : goal.returns-in-Err
returns-in-Err c = no_zone First c.in-Err.halt c.in-Err.ensures.halt c.halted_reply.ensures.reports c.halted_reply.ensures.input

pub returns-in-Err-zone_of : goal.returns-in-Err-zone_of
returns-in-Err-zone_of c = no_zone Second c.in-Err-zone_of.halt c.in-Err-zone_of.ensures.halt c.halted_reply-in-Err-zone_of.ensures.reports c.halted_reply-in-Err-zone_of.ensures.input

pub returns : goal.returns
returns c = judged c.in-Ok.zone c.in-Ok-zone_of.other _ c.in-Ok.ensures.zone c.in-Ok-zone_of.ensures.zone c.first_difference.ensures c.verdict_reply.ensures
