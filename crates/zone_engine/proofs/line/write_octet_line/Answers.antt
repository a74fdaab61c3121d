use Rattle.zone_engine.proofs.Common.{[], ◌∷◌, ◌++◌, refl, AppendsPart}
use Rattle.zone_engine.proofs.Lines.{both_written, on_any_err, on_err, part_as, part_first, part_then}
use Rattle.zone_engine.proofs.line.write_octet_line.Goals as goal

pub returns-in_err-write_octets-clause-part : goal.returns-in_err-write_octets-clause-part
returns-in_err-write_octets-clause-part g c =
    on_any_err _ _ (part_first _ _ _ (c.args.words.now ++ c.args.line.now) (10 ∷ []) refl
    (part_first _ _ _ c.args.words.now c.args.line.now refl c.in_err-write_octets.ensures.part))

pub returns-in_err-write_octets-2-clause-part : goal.returns-in_err-write_octets-2-clause-part
returns-in_err-write_octets-2-clause-part g c =
    on_any_err _ _ (part_first _ _ _ (c.args.words.now ++ c.args.line.now) (10 ∷ []) refl
    (part_then _ _ _ _ c.args.words.now c.args.line.now refl c.in_ok-write_octets.ensures.written
    (part_as _ _ _ c.args.line.now refl c.in_err-write_octets-2.ensures.part)))

pub returns-clause-part : goal.returns-clause-part
returns-clause-part g c =
    on_err c.write_octets-3.result (AppendsPart (g.W.OctetWriter.state c.write_octets-2.new.writer).octets (g.W.OctetWriter.state c.write_octets-3.new.writer).octets (10 ∷ []))
    (AppendsPart (g.W.OctetWriter.state c.args.writer.now).octets (g.W.OctetWriter.state c.write_octets-3.new.writer).octets (c.args.words.now ++ c.args.line.now ++ 10 ∷ []))
    (λ part. part_then _ _ _ (c.args.words.now ++ c.args.line.now) (c.args.words.now ++ c.args.line.now) (10 ∷ []) refl
    (both_written _ _ _ _ _ c.args.words.now c.args.line.now refl refl c.in_ok-write_octets.ensures.written c.in_ok-write_octets-2.ensures.written) part)
    c.write_octets-3.ensures.part
