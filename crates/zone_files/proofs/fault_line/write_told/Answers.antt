use Rattle.std.proofs.Common.{Bor, List, ℕ, ◌≡◌, ◌++◌}
use Rattle.std.specs.List.{flat_map}
use Rattle.zone_engine.proofs.Lines.{part_of_line_on_err, this_line_on_ok}
use Rattle.zone_files.proofs.Pieces.{told_pieces}
use Rattle.zone_files.specs.Machine.Told.{told_text}
use Rattle.zone_files.proofs.fault_line.write_told.Given as given
use Rattle.zone_files.proofs.fault_line.write_told.Goals as goal
use Rattle.zone_files.proofs.fault_line.write_told.Goals.{After-write_pieces}

told : (g : given.Over) (c : After-write_pieces g) → flat_map (λ (piece : Bor (List ℕ)). piece.now) c.as_slice-2.result.now ≡ c.args.words.now ++ told_text c.args.head c.args.place c.args.detail
told g c = rw (c.as_slice-2.ensures, c.as_bytes.ensures.value, c.as_slice.ensures) (told_pieces c.args.words.now c.args.head.letter.now c.args.head.number.now c.args.head.blank.now c.args.head.name.now c.args.place.at.now c.args.place.name.now c.args.place.colon.now c.args.place.line.now c.args.place.value_words.now c.args.place.value.now c.args.detail.mnemonic.now c.args.detail.comma.now c.args.detail.field.now c.args.detail.colon.now c.args.detail.text.now)

pub returns-clause-written : goal.returns-clause-written
returns-clause-written g c = this_line_on_ok c.write_pieces.result _ _ (g.W.OctetWriter.state c.args.writer.now) (g.W.OctetWriter.state c.write_pieces.new.writer) (told g (goal.at.returns-clause-written g c).After-write_pieces) c.write_pieces.ensures.written

pub returns-clause-part : goal.returns-clause-part
returns-clause-part g c = part_of_line_on_err c.write_pieces.result _ _ (g.W.OctetWriter.state c.args.writer.now) (g.W.OctetWriter.state c.write_pieces.new.writer) (told g (goal.at.returns-clause-part g c).After-write_pieces) c.write_pieces.ensures.part
