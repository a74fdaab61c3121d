use Rattle.zone_engine.proofs.Lines.{tells_line}
use Rattle.zone_engine.proofs.line.tell.Goals as goal

pub returns : goal.returns
returns g c = tells_line _ (g.E.OctetWriter.state c.args.errors.now) (g.E.OctetWriter.state c.write_line.new.writer) c.write_line.result _ _ c.write_line.ensures.written c.write_line.ensures.part c.write_line.ensures.works c.write_line.ensures.failed c.answered.ensures.ok c.answered.ensures.err
