use Rattle.zone_engine.proofs.Common.{List, ap₂, ℕ, ◌++◌, ◌∙◌, refusal_line}
use Rattle.zone_engine.proofs.Lines.{part_of_line_on_err, this_line_on_ok}
use Rattle.zone_engine.proofs.line.write_refusal.Goals as goal

pub returns-clause-written : goal.returns-clause-written
returns-clause-written g c =
    this_line_on_ok c.write_octet_line.result (c.as_bytes.result.now ++ c.as_slice.result.now) (c.args.words.now ++ refusal_line c.args.fault.now c.args.place) (g.W.OctetWriter.state c.args.writer.now) (g.W.OctetWriter.state c.write_octet_line.new.writer)
    (ap₂ (λ (words line : List ℕ). words ++ line) c.as_bytes.ensures.value (c.as_slice.ensures ∙ c.line_of_refusal-line.ensures)) c.write_octet_line.ensures.written

pub returns-clause-part : goal.returns-clause-part
returns-clause-part g c =
    part_of_line_on_err c.write_octet_line.result (c.as_bytes.result.now ++ c.as_slice.result.now) (c.args.words.now ++ refusal_line c.args.fault.now c.args.place) (g.W.OctetWriter.state c.args.writer.now) (g.W.OctetWriter.state c.write_octet_line.new.writer)
    (ap₂ (λ (words line : List ℕ). words ++ line) c.as_bytes.ensures.value (c.as_slice.ensures ∙ c.line_of_refusal-line.ensures)) c.write_octet_line.ensures.part
