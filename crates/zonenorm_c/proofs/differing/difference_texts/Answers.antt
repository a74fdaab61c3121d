-- which of the inputs stopped the call, or the difference of both zones
use Rattle.std.proofs.Common.{refl}
use Rattle.zone_engine.specs.Compare.{by_first_bytes, by_second_bytes}
use Rattle.zone_engine.specs.declared.comparison.Which.TheVariants.{First, Second}
use Rattle.zonenorm_c.specs.Difference.{differ, no_memory, stopped}
use Rattle.zonenorm_c.proofs.differing.difference_texts.Goals as goal

pub returns-in-Err : goal.returns-in-Err
returns-in-Err c = stopped First c.in-Err.stop (by_first_bytes c.in-Err.stop c.in-Err.ensures.stopped c.in-Err.ensures.fault) c.stop_texts.ensures

pub returns-in-Err-zone_in : goal.returns-in-Err-zone_in
returns-in-Err-zone_in c = stopped Second c.in-Err-zone_in.stop (by_second_bytes c.in-Err-zone_in.stop c.in-Err-zone_in.ensures.stopped c.in-Ok.zone c.in-Ok.ensures.zone c.in-Err-zone_in.ensures.fault) c.stop_texts-in-Err-zone_in.ensures

pub returns-in-Ok-texts_of : goal.returns-in-Ok-texts_of
returns-in-Ok-texts_of c = differ c.in-Ok.zone c.in-Ok-zone_in.other c.in-Ok.ensures.zone c.in-Ok-zone_in.ensures.zone c.in-Ok-texts_of.ensures

pub returns : goal.returns
returns c = no_memory (rw (c.alone.ensures.answer, c.without_text.ensures.answer, c.plain.ensures) refl) (rw c.alone.ensures.removed c.without_text.ensures.text) c.alone.ensures.added
