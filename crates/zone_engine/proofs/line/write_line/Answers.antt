use Rattle.zone_engine.proofs.Common.{List, ap₂, ℕ, ◌++◌}
use Rattle.zone_engine.proofs.Lines.{part_of_line_on_err}
use Rattle.zone_engine.proofs.line.write_line.Goals as goal

pub returns-clause-part : goal.returns-clause-part
returns-clause-part g c =
    part_of_line_on_err c.write_octet_line.result (c.as_bytes.result.now ++ c.as_bytes-2.result.now) (c.args.words.now ++ c.args.line.now) (g.W.OctetWriter.state c.args.writer.now) (g.W.OctetWriter.state c.write_octet_line.new.writer)
    (ap₂ (λ (words line : List ℕ). words ++ line) c.as_bytes.ensures.value c.as_bytes-2.ensures.value) c.write_octet_line.ensures.part
