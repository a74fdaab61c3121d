use Rattle.zone_engine.proofs.Lines.{failed_write}
use Rattle.words_command.proofs.filtering.write_held.Goals as goal

pub returns-in-Ok-clause-written : goal.returns-in-Ok-clause-written
returns-in-Ok-clause-written g c = rw (← c.written.ensures) c.in-Ok.ensures.written

pub returns-in-Err-clause-part : goal.returns-in-Err-clause-part
returns-in-Err-clause-part g c = rw (← c.written.ensures) c.in-Err.ensures.part

pub returns-in-Err-clause-failed : goal.returns-in-Err-clause-failed
returns-in-Err-clause-failed g c = failed_write (g.W.OctetWriter.state c.args.output.now) (g.W.OctetWriter.state c.write_octets.new.writer) _ c.in-Err.ensures.failed
