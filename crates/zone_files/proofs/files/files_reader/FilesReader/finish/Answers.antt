use Rattle.std.proofs.Common.{◌++◌, List, ℕ, sym, subst, refl}
use Rattle.zone_files.specs.IncludeStack.{EndsInnermost}
use Rattle.zone_files.specs.Machine.OpenReading.{StandsForRead}
use Rattle.zone_files.proofs.FilesReading.{stands_ended}
use Rattle.zone_files.proofs.ReadingEnds.{steps_ended}
use Rattle.zone_files.proofs.files.files_reader.FilesReader.finish.Goals as goal

pub returns-clause-reads : goal.returns-clause-reads
returns-clause-reads g c =
    let state = g.R.OctetReader.state in
    let ends = subst (λ (before : List ℕ). EndsInnermost c.args.self.now.stack c.finish.new.self before c.finish.new.out.items) c.requires.none c.in-Ok.ensures.ends in
    λ main first opened text was.
    subst (λ (items : List ℕ). StandsForRead state main first c.close_ended.new.self opened (text ++ items)) (sym c.close_ended.ensures.text)
    (c.close_ended.ensures.stands main ends.ended first opened (text ++ c.finish.new.out.items) (stands_ended state main first opened text c.args.self.now _ ends refl refl was))

pub returns-clause-steps : goal.returns-clause-steps
returns-clause-steps g c taking aligned =
    steps_ended c.args.self.now _ c.close_ended.new.self refl refl c.close_ended.ensures.stack c.close_ended.ensures.closes aligned c.args.self.now.text.items c.finish.new.out.items c.in-Ok.ensures.ends c.in-Ok.ensures.last taking
