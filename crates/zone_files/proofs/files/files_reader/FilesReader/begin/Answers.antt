use Rattle.std.proofs.Common.{refl, rules}
use Rattle.zone_files.specs.IncludeStack.{BeginsInner}
use Rattle.zone_files.proofs.FilesReading.{stands_begun}
use Rattle.zone_files.proofs.ReadingEnds.{steps_begun}
use Rattle.zone_files.proofs.files.files_reader.FilesReader.begin.Goals as goal

pub returns-clause-stands : goal.returns-clause-stands
returns-clause-stands g c =
    let begins : BeginsInner c.args.self.now.stack c.begin_included.new.self = search rules in
    λ main name first opened text was.
    stands_begun g.R.OctetReader.state main first opened text c.args.self.now _ name c.args.file begins c.in-Ok.ensures.opened c.in-Ok.ensures.outer refl was

pub returns-clause-steps : goal.returns-clause-steps
returns-clause-steps g c aligned =
    let begins : BeginsInner c.args.self.now.stack c.begin_included.new.self = search rules in
    steps_begun c.args.self.now _ c.args.file begins c.in-Ok.ensures.opened c.in-Ok.ensures.outer refl (search rules) aligned
