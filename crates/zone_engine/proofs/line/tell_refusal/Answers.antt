use Rattle.zone_engine.proofs.Lines.{tells_line}
use Rattle.zone_engine.proofs.line.tell_refusal.Goals as goal

pub returns : goal.returns
returns g c = tells_line _ (g.E.OctetWriter.state c.args.errors.now) (g.E.OctetWriter.state c.write_refusal.new.writer) c.write_refusal.result _ _ c.write_refusal.ensures.written c.write_refusal.ensures.part c.write_refusal.ensures.works c.write_refusal.ensures.failed c.answered.ensures.ok c.answered.ensures.err
