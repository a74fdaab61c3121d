use Rattle.std.proofs.Common.{◌++◌, List, ℕ, sym, subst, refl}
use Rattle.zone_files.specs.IncludeStack.{MakesLines}
use Rattle.zone_files.specs.Machine.OpenReading.{StandsForRead}
use Rattle.zone_files.proofs.FilesReading.{stands_made}
use Rattle.zone_files.proofs.ReadingEnds.{steps_made}
use Rattle.zone_files.proofs.files.files_reader.FilesReader.generate.Goals as goal

pub returns-clause-reads : goal.returns-clause-reads
returns-clause-reads g c =
    let state = g.R.OctetReader.state in
    let makes = subst (λ (before : List ℕ). MakesLines c.args.self.now.stack c.generate.new.self before c.generate.new.out.items) c.requires.none c.in-Ok.ensures.makes in
    λ main first opened text was.
    subst (λ (items : List ℕ). StandsForRead state main first c.close_ended.new.self opened (text ++ items)) (sym c.close_ended.ensures.text)
    (c.close_ended.ensures.stands main makes.ended first opened (text ++ c.generate.new.out.items) (stands_made state main first opened text c.args.self.now _ makes refl refl was))

pub returns-clause-steps : goal.returns-clause-steps
returns-clause-steps g c generating aligned =
    steps_made c.args.self.now _ c.close_ended.new.self refl refl c.close_ended.ensures.stack c.close_ended.ensures.closes aligned c.args.self.now.text.items c.generate.new.out.items c.in-Ok.ensures.makes (c.in-Ok.ensures.after generating) generating
