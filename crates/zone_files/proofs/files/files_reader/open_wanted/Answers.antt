use Rattle.std.proofs.Common.{Some, ap, option_map, subst, sym, ◌∙◌}
use Rattle.std.proofs.lemmas.Result.{on_ok_weaker}
use Rattle.zone_files.proofs.FilesReading.{reading_begun}
use Rattle.zone_files.proofs.FilesStops.{if_err_by, on_ok_four, stops_many, stops_memory, stops_unopened}
use Rattle.zone_files.proofs.files.files_reader.open_wanted.Goals as goal

pub returns-in-Some-open_included-clause-reads : goal.returns-in-Some-open_included-clause-reads
returns-in-Some-open_included-clause-reads g c =
    let name = c.in-Some.name.now in
    let opens = subst (λ made. g.S.IncludedFiles.opens c.args.files.now name made c.open_included.new.self) c.in-Some-open_included.is c.open_included.ensures in
    on_ok_four c.begin.result
    (λ stands more few expanded main first start text was.
    reading_begun g.S.IncludedFiles.opens g.S.File.OctetReader.state main first start text c.args.reader.now c.begin.new.self c.args.files.now c.open_included.new.self name c.in-Some-open_included.file opens more few expanded
    (λ opened st. stands main name first opened text st) was)
    c.begin.ensures.stands c.begin.ensures.included c.begin.ensures.few c.begin.ensures.expanded

pub returns-in-Some-open_included-clause-stops : goal.returns-in-Some-open_included-clause-stops
returns-in-Some-open_included-clause-stops g c =
    if_err_by _ _ c.begin.result
    (λ stop is main first start text was. stops_memory g.S.IncludedFiles.opens g.S.File.OctetReader.state main first start text c.begin.new.self c.open_included.new.self stop is)
    c.begin.ensures.memory

pub returns-then-has_included_most-clause-stops : goal.returns-then-has_included_most-clause-stops
returns-then-has_included_most-clause-stops g c =
    λ main first start text was. stops_many g.S.IncludedFiles.opens g.S.File.OctetReader.state main first start text c.args.reader.now c.args.files.now (c.has_included_most.ensures.yes c.if-has_included_most.true) was

pub returns-in-None-clause-stops : goal.returns-in-None-clause-stops
returns-in-None-clause-stops g c =
    λ main first start text was.
    stops_unopened g.S.IncludedFiles.opens g.S.File.OctetReader.state main first start text c.args.reader.now c.args.files.now c.open_included.new.self c.in-Some.name.now
    (sym c.wanted.ensures ∙ ap (λ o. option_map (λ (name : _). name.now) o) c.in-Some.is)
    (subst (λ made. g.S.IncludedFiles.opens c.args.files.now c.in-Some.name.now made c.open_included.new.self) c.in-None.is c.open_included.ensures) was
