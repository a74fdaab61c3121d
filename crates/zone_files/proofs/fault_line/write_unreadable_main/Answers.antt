use Rattle.std.proofs.Common.{Bor, List, ℕ, append-nil, refl}
use Rattle.std.specs.List.{flat_map}
use Rattle.zone_engine.proofs.Lines.{part_of_line_on_err}
use Rattle.zone_files.specs.FaultLine.{unreadable_main_line}
use Rattle.zone_files.proofs.fault_line.write_unreadable_main.Goals as goal

pub returns-clause-part : goal.returns-clause-part
returns-clause-part g c =
    part_of_line_on_err c.write_pieces.result (flat_map (λ (piece : Bor (List ℕ)). piece.now) c.as_slice-2.result.now) (unreadable_main_line c.args.name.now) (g.W.OctetWriter.state c.args.writer.now) (g.W.OctetWriter.state c.write_pieces.new.writer) (rw (c.as_slice-2.ensures, c.as_slice.ensures, c.as_bytes.ensures.value) (simp append-nil refl)) c.write_pieces.ensures.part
