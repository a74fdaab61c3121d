use Rattle.std.proofs.Common.{List, ℕ, ◌++◌, refl}
use Rattle.zone_files.specs.Expansion.{Holds}
use Rattle.zone_files.specs.Machine.OpenReading.{IsReading}
use Rattle.zone_files.proofs.FilesReading.{reading_counted, reading_same}
use Rattle.zone_files.proofs.FilesStops.{stops_long}
use Rattle.zone_files.proofs.files.files_reader.read_on.Goals as goal

pub returns-in-Ok-clause-reads : goal.returns-in-Ok-clause-reads
returns-in-Ok-clause-reads g c =
    λ main first start text was.
    let opens = g.S.IncludedFiles.opens in
    let state = g.S.File.OctetReader.state in
    reading_counted opens state main first start text c.step.new.reader c.count.new.self c.step.new.files c.count.ensures.stack c.count.ensures.files c.count.ensures.cut c.count.ensures.included c.count.ensures.text c.count.ensures.expanded
    (c.in_ok-step.ensures.reads main first start text
    (reading_same opens state main first start text c.args.reader.now _ c.args.files.now refl refl refl refl refl was))

pub returns-in-Err-clause-stops : goal.returns-in-Err-clause-stops
returns-in-Err-clause-stops g c =
    λ main first start text was.
    let opens = g.S.IncludedFiles.opens in
    let state = g.S.File.OctetReader.state in
    let read = reading_counted opens state main first start text c.step.new.reader c.count.new.self c.step.new.files c.count.ensures.stack c.count.ensures.files c.count.ensures.cut c.count.ensures.included c.count.ensures.text c.count.ensures.expanded
    (c.in_ok-step.ensures.reads main first start text
    (reading_same opens state main first start text c.args.reader.now _ c.args.files.now refl refl refl refl refl was)) in
    stops_long opens state main first start (text ++ c.count.new.self.text.items) c.count.new.self c.step.new.files c.in-Err.stop c.in-Err.ensures.long read text
