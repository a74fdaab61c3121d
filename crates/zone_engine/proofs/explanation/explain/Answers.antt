use Rattle.zone_engine.proofs.Common.{List, ap, refl, codes, ℕ, ◌++◌, err_from_is_err_and, records_line, refusal_line}
use Rattle.zone_engine.proofs.Telling.{explains, explains_part, on_records, on_refusal}
use Rattle.zone_engine.proofs.explanation.explain.Goals as goal

pub returns-in_ok-write_line-in-Ok-clause-explained : goal.returns-in_ok-write_line-in-Ok-clause-explained
returns-in_ok-write_line-in-Ok-clause-explained g c =
    explains _ (g.R.OctetReader.state c.args.reader.now) (g.W.OctetWriter.state c.args.writer.now) (g.W.OctetWriter.state c.write_line.new.writer) (records_line c.len.result) _ _ (on_records _ _ c.in-Ok.zone c.len.result c.in-Ok.ensures.zone c.len.ensures)
    (ap (λ (digits : List ℕ). codes "accepted, records: " ++ digits) c.format.ensures.text) c.in_ok-write_line-in-Ok.ensures.written

pub returns-in_ok-write_refusal-in-Err-Refused-clause-explained : goal.returns-in_ok-write_refusal-in-Err-Refused-clause-explained
returns-in_ok-write_refusal-in-Err-Refused-clause-explained g c =
    explains _ (g.R.OctetReader.state c.args.reader.now) (g.W.OctetWriter.state c.args.writer.now) (g.W.OctetWriter.state c.write_refusal.new.writer) (refusal_line c.in-Err-Refused.fault c.in-Err-Refused.place) _ _
    (on_refusal _ _ c.in-Err-Refused.field-0 c.in-Err-Refused.fault c.in-Err-Refused.place (let e = c.in-Err-Refused.field-0-is in cc) c.in-Err-Refused.ensures.read.fault)
    refl c.in_ok-write_refusal-in-Err-Refused.ensures.written

pub returns-in_err-write_line-in-Ok-clause-stopped : goal.returns-in_err-write_line-in-Ok-clause-stopped
returns-in_err-write_line-in-Ok-clause-stopped g c =
    let p = err_from_is_err_and c.from_residual.result c.from_residual.ensures.1 in
    rw (p.1, p.2) (explains_part _ (g.R.OctetReader.state c.args.reader.now) (g.W.OctetWriter.state c.args.writer.now) (g.W.OctetWriter.state c.write_line.new.writer) _ (records_line c.len.result) _ _ c.in_err-write_line-in-Ok.ensures.failed
    (on_records _ _ c.in-Ok.zone c.len.result c.in-Ok.ensures.zone c.len.ensures)
    (ap (λ (digits : List ℕ). codes "accepted, records: " ++ digits) c.format.ensures.text) c.in_err-write_line-in-Ok.ensures.part)

pub returns-in_err-write_refusal-in-Err-Refused-clause-stopped : goal.returns-in_err-write_refusal-in-Err-Refused-clause-stopped
returns-in_err-write_refusal-in-Err-Refused-clause-stopped g c =
    let p = err_from_is_err_and c.from_residual-in_err-write_refusal-in-Err-Refused.result c.from_residual-in_err-write_refusal-in-Err-Refused.ensures.1 in
    rw (p.1, p.2) (explains_part _ (g.R.OctetReader.state c.args.reader.now) (g.W.OctetWriter.state c.args.writer.now) (g.W.OctetWriter.state c.write_refusal.new.writer) _ (refusal_line c.in-Err-Refused.fault c.in-Err-Refused.place) _ _ c.in_err-write_refusal-in-Err-Refused.ensures.failed
    (on_refusal _ _ c.in-Err-Refused.field-0 c.in-Err-Refused.fault c.in-Err-Refused.place (let e = c.in-Err-Refused.field-0-is in cc) c.in-Err-Refused.ensures.read.fault)
    refl c.in_err-write_refusal-in-Err-Refused.ensures.part)
