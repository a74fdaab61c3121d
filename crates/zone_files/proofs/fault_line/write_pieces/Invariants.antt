use Rattle.std.proofs.Common.{Bor, List, ℕ, drop}
use Rattle.zone_print.proofs.Front.{Left}
use Rattle.zone_print.specs.Device.{WorksOn}
use Rattle.zone_files.proofs.Pieces.{fed_pieces}
use Rattle.zone_files.proofs.fault_line.write_pieces.Given as goal

-- the pieces before this one were written
abbrev pub invariant-loop-piece : goal.invariant-loop-piece
invariant-loop-piece g l =
    let state = g.W.OctetWriter.state in
    record {
      left : Left (state l.initial.writer).octets (state l.writer).octets (fed_pieces (λ (piece : Bor (List ℕ)). piece.now) l.pieces) (fed_pieces (λ (piece : Bor (List ℕ)). piece.now) (drop l.piece-index l.pieces));
      works : WorksOn (state l.initial.writer) (state l.writer);
    }
