use Rattle.std.proofs.Common.{◌≡◌, ◌<◌, ◌-◌, [], length, ap, arith}
use Rattle.std.proofs.lemmas.Grind.{common_steps}
use Rattle.zone_print.specs.Canonical.{text_limit}
use Rattle.zone_files.proofs.FilesReading.{too_long}
use Rattle.zone_files.proofs.files.open_file.OpenFile.read.Goals as goal

pub returns-then-given-saturating_sub-clause-stops :
    goal.returns-then-given-saturating_sub-clause-stops
returns-then-given-saturating_sub-clause-stops g c =
    let none : c.args.self.now.piece ≡ [] = grind (arith, common_steps) in
    let over : text_limit - c.args.self.now.count < length c.read.new.self = omega (arith, ap length c.left-2.ensures) in
    λ reader taken was. too_long g.R.OctetReader.state reader c.args.self.now taken c.read.new.self _ was none c.in-Ok.ensures.taken over
