use Rattle.std.proofs.Common.{Bor, List, ℕ}
use Rattle.zone_engine.proofs.Lines.{on_any_err}
use Rattle.zone_print.proofs.Front.{left_less, part_more}
use Rattle.zone_files.proofs.Pieces.{next_piece}
use Rattle.zone_files.proofs.fault_line.write_pieces.Goals as goal

pub returns-in_err-write_octets-clause-part : goal.returns-in_err-write_octets-clause-part
returns-in_err-write_octets-clause-part g c =
    on_any_err _ _ (part_more _ _ _ _ _ _ _ c.loop-piece.invariant.left (next_piece (λ (piece : Bor (List ℕ)). piece.now) c.args.pieces.now c.loop-piece.piece-index _ c.loop-piece-test.true) c.in_err-write_octets.ensures.part)

pub loop-piece-preserved : goal.loop-piece-preserved
loop-piece-preserved g c = record {
  left = left_less _ _ _ _ _ _ _ c.loop-piece.invariant.left (next_piece (λ (piece : Bor (List ℕ)). piece.now) c.args.pieces.now c.loop-piece.piece-index _ c.loop-piece-test.true) c.in_ok-write_octets.ensures.written;
  works = λ w. c.in_ok-write_octets.ensures.works (c.loop-piece.invariant.works w);
}
