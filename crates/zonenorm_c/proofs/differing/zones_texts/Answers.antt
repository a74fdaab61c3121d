-- the records that go and come, or the first input that denotes no zone
use Rattle.zone_engine.specs.declared.comparison.Which.TheVariants.{First, Second}
use Rattle.zonenorm_c.specs.Difference.{no_zone, of_zones}
use Rattle.zonenorm_c.proofs.differing.zones_texts.Goals as goal

pub returns-in-Err : goal.returns-in-Err
returns-in-Err c =
    no_zone First c.in-Err.halt c.in-Err.ensures.halt (rw (c.alone.ensures.removed, c.alone.ensures.answer) c.halted_reply.ensures.reports) (rw c.alone.ensures.answer c.halted_reply.ensures.input) c.alone.ensures.added

pub returns-in-Ok-texts_of : goal.returns-in-Ok-texts_of
returns-in-Ok-texts_of c = of_zones c.in-Ok.zone c.in-Ok-zone_of.other c.in-Ok.ensures.zone c.in-Ok-zone_of.ensures.zone c.in-Ok-texts_of.ensures

pub returns-in-Err-zone_of : goal.returns-in-Err-zone_of
returns-in-Err-zone_of c =
    no_zone Second c.in-Err-zone_of.halt c.in-Err-zone_of.ensures.halt (rw (c.alone-in-Err-zone_of.ensures.removed, c.alone-in-Err-zone_of.ensures.answer) c.halted_reply-in-Err-zone_of.ensures.reports) (rw c.alone-in-Err-zone_of.ensures.answer c.halted_reply-in-Err-zone_of.ensures.input) c.alone-in-Err-zone_of.ensures.added
