use Rattle.std.proofs.Common.{◌<◌, ap, arith, length, refl}
use Rattle.std.proofs.lemmas.Grind.{common_steps}
use Rattle.std.proofs.lemmas.Result.{on_ok_weaker}
use Rattle.zone_files.proofs.FilesReading.{stands_read}
use Rattle.zone_files.proofs.ReadingEnds.{steps_read}
use Rattle.zone_files.proofs.files.files_reader.FilesReader.read_innermost.Goals as goal

pub returns-then-is_empty-clause-reads : goal.returns-then-is_empty-clause-reads
returns-then-is_empty-clause-reads g c =
    on_ok_weaker c.finish.result
    (λ reads main first opened text was. reads main first opened text (stands_read g.R.OctetReader.state main first opened text c.args.self.now _ refl refl refl c.in-Ok.ensures.reads was))
    c.finish.ensures.reads

pub returns-else-is_empty-clause-reads : goal.returns-else-is_empty-clause-reads
returns-else-is_empty-clause-reads g c =
    on_ok_weaker c.feed.result
    (λ reads main first opened text was. reads main first opened text (stands_read g.R.OctetReader.state main first opened text c.args.self.now _ refl refl refl c.in-Ok.ensures.reads was))
    c.feed.ensures.reads

pub returns-then-is_empty-clause-steps : goal.returns-then-is_empty-clause-steps
returns-then-is_empty-clause-steps g c =
    on_ok_weaker c.finish.result
    (λ steps taking aligned. steps_read c.args.self.now _ c.finish.new.self refl refl refl c.in-Ok.ensures.room (steps taking aligned))
    c.finish.ensures.steps

pub returns-else-is_empty-clause-steps : goal.returns-else-is_empty-clause-steps
returns-else-is_empty-clause-steps g c =
    let some : 0 < length c.read.new.self.piece = grind (arith, common_steps) in
    on_ok_weaker c.feed.result
    (λ steps taking aligned. steps_read c.args.self.now _ c.feed.new.self refl refl refl c.in-Ok.ensures.room (steps taking some aligned))
    c.feed.ensures.steps
