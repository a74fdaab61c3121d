use Rattle.std.proofs.Common.{Bor, List, ℕ, ap, codes, ◌≡◌, ◌++◌, ◌∙◌}
use Rattle.std.specs.List.{flat_map}
use Rattle.zone_engine.proofs.Lines.{part_of_line_on_err, this_line_on_ok}
use Rattle.zone_files.proofs.Pieces.{placed_pieces}
use Rattle.zone_files.specs.FaultLine.{entry_text}
use Rattle.zone_files.specs.PlacedLine.{placed_text}
use Rattle.zone_files.specs.Machine.Told.{detail_of, head_of}
use Rattle.zone_files.proofs.placed_fault.write_line.Given as given
use Rattle.zone_files.proofs.placed_fault.write_line.Goals as goal
use Rattle.zone_files.proofs.placed_fault.write_line.Goals.{After-write_pieces}

told : (g : given.Over) (c : After-write_pieces g) → flat_map (λ (piece : Bor (List ℕ)). piece.now) c.as_slice-4.result.now ≡ placed_text (entry_text c.args.place) (head_of c.args.head) c.args.before.now (detail_of c.args.detail) c.args.behind.now
told g c =
    let p = c.entry_pieces-place.result in
    let h = c.args.head in
    let d = c.args.detail in
    rw (c.as_slice-4.ensures, c.as_slice-3.ensures, c.as_slice-2.ensures)
    (placed_pieces p.at.now p.name.now p.colon.now p.line.now p.value_words.now p.value.now h.letter.now h.number.now h.blank.now h.name.now c.args.before.now d.mnemonic.now d.comma.now d.field.now d.colon.now d.text.now c.args.behind.now)
    ∙ ap (λ t. placed_text t (head_of h) c.args.before.now (detail_of d) c.args.behind.now) (rw c.as_slice.ensures at c.entry_pieces-place.ensures)

pub returns-clause-written : goal.returns-clause-written
returns-clause-written g c = this_line_on_ok c.write_pieces.result _ _ (g.W.OctetWriter.state c.args.writer.now) (g.W.OctetWriter.state c.write_pieces.new.writer) (told g (goal.at.returns-clause-written g c).After-write_pieces) c.write_pieces.ensures.written

pub returns-clause-part : goal.returns-clause-part
returns-clause-part g c = part_of_line_on_err c.write_pieces.result _ _ (g.W.OctetWriter.state c.args.writer.now) (g.W.OctetWriter.state c.write_pieces.new.writer) (told g (goal.at.returns-clause-part g c).After-write_pieces) c.write_pieces.ensures.part
