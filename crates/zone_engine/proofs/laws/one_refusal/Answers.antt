use Rattle.zone_engine.proofs.Reading.Inputs.{one_reading, one_refusal}
use Rattle.zone_engine.proofs.laws.one_refusal.Goals as goal

pub returns : goal.returns
returns c = λ input. one_refusal input c.one_fault_of_a_reading.ensures (one_reading c.a_file_has_one_reading.ensures c.one_reading_of_a_stream.ensures.whole input)
