use Rattle.zone_engine.proofs.Reading.Inputs.{one_reading, refused_or_denoted, stated_is_read}
use Rattle.zone_engine.proofs.laws.no_zone_of_a_refused_input.Goals as goal

pub returns : goal.returns
returns c = λ input. refused_or_denoted input c.no_zone_of_a_refused_reading.ensures (one_reading c.a_file_has_one_reading.ensures c.one_reading_of_a_stream.ensures.whole input) (stated_is_read c.a_file_states_what_is_read.ensures c.a_transfer_is_read.ensures.only input)
