use Rattle.zone_engine.proofs.Common.{None, file, transfer}
use Rattle.zone_engine.proofs.Reading.Inputs.{file_fits, placed_fit, of_both_forms, Outcome, refusal_or_zone}
use Rattle.zone_engine.proofs.laws.refusal_or_zone.Goals as goal

pub returns : goal.returns
returns c =
    of_both_forms Outcome
    (λ origin octets name each. let (placed, (ending, reads)) = c.a_file_has_a_reading.ensures origin octets name each in refusal_or_zone (file origin octets) c.refusal_or_zone_of_a_reading.ensures.whole c.refusal_or_zone_of_a_reading.ensures.broken placed ending (λ whole. let states = (c.a_file_states_what_is_read.ensures origin octets placed).1 whole in (states, file_fits origin octets placed states)) reads)
    (λ stream octets. let (placed, ending, reads) = c.each_stream_is_read.ensures.whole stream octets in refusal_or_zone (transfer stream) c.refusal_or_zone_of_a_reading.ensures.whole c.refusal_or_zone_of_a_reading.ensures.broken placed ending (λ whole. (c.a_transfer_is_read.ensures.found stream placed octets whole, placed_fit placed (c.what_is_read_is_records.ensures stream placed None octets whole))) reads)
