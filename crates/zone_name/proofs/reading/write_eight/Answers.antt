use Rattle.zone_name.proofs.Common.{sym, ◌∙◌}
use Rattle.zone_name.proofs.Spelling.Plain.{eight_written}
use Rattle.zone_name.proofs.reading.write_eight.Goals as goal

pub returns-then-mark_bits-eq-EVENS-clause-writes :
    goal.returns-then-mark_bits-eq-EVENS-clause-writes
returns-then-mark_bits-eq-EVENS-clause-writes c = λ done before w.
    eight_written before c.args.octets.now c.turn_evens.new.octets c.args.at w (c.turn_evens.ensures.turned done)
    (sym c.mark_bits.ensures ∙ c.if-mark_bits-eq-EVENS.true)
