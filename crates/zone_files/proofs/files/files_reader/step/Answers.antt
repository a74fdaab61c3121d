use Rattle.std.proofs.Common.{inl, inr, sym, subst, ◌∙◌}
use Rattle.std.proofs.lemmas.Result.{on_ok_weaker}
use Rattle.zone_files.specs.FilesStopped.{HasEnded}
use Rattle.zone_files.proofs.FilesReading.{on_ok_two, reading_none, reading_on}
use Rattle.zone_files.proofs.FilesStops.{if_err_by, stops_ended, stops_innermost, stops_memory}
use Rattle.zone_files.proofs.files.files_reader.step.Goals as goal

pub returns-in-Going-clause-reads : goal.returns-in-Going-clause-reads
returns-in-Going-clause-reads g c =
    on_ok_weaker c.read_innermost.result
    (λ reads main first start text was.
    reading_on g.S.IncludedFiles.opens g.S.File.OctetReader.state main first start text c.args.reader.now c.read_innermost.new.self c.args.files.now c.read_innermost.ensures.included c.read_innermost.ensures.expanded
    (λ opened. reads main first opened text) was)
    c.read_innermost.ensures.reads

pub returns-in-Going-clause-steps : goal.returns-in-Going-clause-steps
returns-in-Going-clause-steps g c =
    on_ok_weaker c.read_innermost.result (λ steps aligned. steps (inl (sym c.status.ensures ∙ c.in-Going.is)) aligned) c.read_innermost.ensures.steps

pub returns-in-Going-clause-stops : goal.returns-in-Going-clause-stops
returns-in-Going-clause-stops g c =
    if_err_by _ _ c.read_innermost.result
    (λ stop stops main first start text was. stops_innermost g.S.IncludedFiles.opens g.S.File.OctetReader.state main first start text c.args.reader.now c.read_innermost.new.self c.args.files.now stop stops was)
    c.read_innermost.ensures.stops

pub returns-in-Broken-clause-reads : goal.returns-in-Broken-clause-reads
returns-in-Broken-clause-reads g c =
    on_ok_weaker c.read_innermost-in-Broken.result
    (λ reads main first start text was.
    reading_on g.S.IncludedFiles.opens g.S.File.OctetReader.state main first start text c.args.reader.now c.read_innermost-in-Broken.new.self c.args.files.now c.read_innermost-in-Broken.ensures.included c.read_innermost-in-Broken.ensures.expanded
    (λ opened. reads main first opened text) was)
    c.read_innermost-in-Broken.ensures.reads

pub returns-in-Broken-clause-steps : goal.returns-in-Broken-clause-steps
returns-in-Broken-clause-steps g c =
    on_ok_weaker c.read_innermost-in-Broken.result (λ steps aligned. steps (inr (sym c.status.ensures ∙ c.in-Broken.is)) aligned) c.read_innermost-in-Broken.ensures.steps

pub returns-in-Broken-clause-stops : goal.returns-in-Broken-clause-stops
returns-in-Broken-clause-stops g c =
    if_err_by _ _ c.read_innermost-in-Broken.result
    (λ stop stops main first start text was. stops_innermost g.S.IncludedFiles.opens g.S.File.OctetReader.state main first start text c.args.reader.now c.read_innermost-in-Broken.new.self c.args.files.now stop stops was)
    c.read_innermost-in-Broken.ensures.stops

pub returns-in-Generating-clause-reads : goal.returns-in-Generating-clause-reads
returns-in-Generating-clause-reads g c =
    on_ok_weaker c.generate.result
    (λ reads main first start text was.
    reading_on g.S.IncludedFiles.opens g.S.File.OctetReader.state main first start text c.args.reader.now c.generate.new.self c.args.files.now c.generate.ensures.included c.generate.ensures.expanded
    (λ opened. reads main first opened text) was)
    c.generate.ensures.reads

pub returns-in-Generating-clause-steps : goal.returns-in-Generating-clause-steps
returns-in-Generating-clause-steps g c =
    on_ok_weaker c.generate.result (λ steps aligned. steps (sym c.status.ensures ∙ c.in-Generating.is) aligned) c.generate.ensures.steps

pub returns-in-Generating-clause-stops : goal.returns-in-Generating-clause-stops
returns-in-Generating-clause-stops g c =
    if_err_by _ _ c.generate.result
    (λ stop is main first start text was. stops_memory g.S.IncludedFiles.opens g.S.File.OctetReader.state main first start text c.generate.new.self c.args.files.now stop is)
    c.generate.ensures.memory

pub returns-in-Including-clause-reads : goal.returns-in-Including-clause-reads
returns-in-Including-clause-reads g c =
    on_ok_two c.open_wanted.result
    (λ reads same main first start text was.
    reading_none g.S.IncludedFiles.opens g.S.File.OctetReader.state main first start text c.open_wanted.new.reader c.open_wanted.new.files (same ∙ c.requires.none)
    (reads main first start text was))
    c.open_wanted.ensures.reads c.open_wanted.ensures.text

pub returns-in-Ended-clause-stops : goal.returns-in-Ended-clause-stops
returns-in-Ended-clause-stops g c =
    λ main first start text was.
    stops_ended g.S.IncludedFiles.opens g.S.File.OctetReader.state main first start text c.args.reader.now c.args.files.now (subst HasEnded (sym (sym c.status.ensures ∙ c.in-Ended.is)) tt) was

pub returns-in-BrokenOff-clause-stops : goal.returns-in-BrokenOff-clause-stops
returns-in-BrokenOff-clause-stops g c =
    λ main first start text was.
    stops_ended g.S.IncludedFiles.opens g.S.File.OctetReader.state main first start text c.args.reader.now c.args.files.now (subst HasEnded (sym (sym c.status.ensures ∙ c.in-BrokenOff.is)) tt) was

pub returns-in-Faulty-clause-stops : goal.returns-in-Faulty-clause-stops
returns-in-Faulty-clause-stops g c =
    λ main first start text was.
    stops_ended g.S.IncludedFiles.opens g.S.File.OctetReader.state main first start text c.args.reader.now c.args.files.now (subst HasEnded (sym (sym c.status.ensures ∙ c.in-Faulty.is)) tt) was

pub returns-in-FaultyAt-clause-stops : goal.returns-in-FaultyAt-clause-stops
returns-in-FaultyAt-clause-stops g c =
    λ main first start text was.
    stops_ended g.S.IncludedFiles.opens g.S.File.OctetReader.state main first start text c.args.reader.now c.args.files.now (subst HasEnded (sym (sym c.status.ensures ∙ c.in-FaultyAt.is)) tt) was
