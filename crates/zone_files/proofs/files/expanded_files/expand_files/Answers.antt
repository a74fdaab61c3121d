use Rattle.std.proofs.lemmas.Result.{IfErr-weaker, on_ok_weaker}
use Rattle.zone_files.proofs.FilesLoading.{reads_to_end, writes_none, written_text, written_whole}
use Rattle.zone_files.proofs.FilesWriting.{at_writing_stop, ended_stops, reading_stops}
use Rattle.zone_files.specs.declared.files.expanded_files.WritingStop.TheVariants.{Reading, Write}
use Rattle.zone_files.proofs.files.expanded_files.expand_files.Goals as goal

pub returns-in-Ok-write_all-clause-expanded : goal.returns-in-Ok-write_all-clause-expanded
returns-in-Ok-write_all-clause-expanded g c =
    let opens = g.S.IncludedFiles.opens in
    let state = g.S.File.OctetReader.state in
    let it = c.in-Ok-write_all.ensures.written c.args.main _ c.args.files.now
    (writes_none opens state c.args.main _ c.args.files.now (g.W.OctetWriter.state c.args.output.now) c.in-Ok.reader c.in-Ok.ensures.stands c.in-Ok.ensures.none c.in-Ok.ensures.nothing) in
    on_ok_weaker c.ended.result
    (λ ends. written_text opens state c.args.main _ c.args.name.now c.args.origin.now c.args.files.now c.write_all.new.files _ _ c.write_all.new.reader it
    (ends _ c.args.name.now c.args.origin.now it.reads.stands.fed it.text it.reads.stands.stands))
    c.ended.ensures.whole

pub returns-in-Ok-write_all-clause-whole : goal.returns-in-Ok-write_all-clause-whole
returns-in-Ok-write_all-clause-whole g c =
    let opens = g.S.IncludedFiles.opens in
    let state = g.S.File.OctetReader.state in
    let it = c.in-Ok-write_all.ensures.written c.args.main _ c.args.files.now
    (writes_none opens state c.args.main _ c.args.files.now (g.W.OctetWriter.state c.args.output.now) c.in-Ok.reader c.in-Ok.ensures.stands c.in-Ok.ensures.none c.in-Ok.ensures.nothing) in
    on_ok_weaker c.ended.result
    (λ ends. written_whole opens state c.args.main _ c.args.name.now c.args.origin.now c.args.files.now c.write_all.new.files _ _ c.write_all.new.reader it
    (ends _ c.args.name.now c.args.origin.now it.reads.stands.fed it.text it.reads.stands.stands))
    c.ended.ensures.whole

pub returns-in-Ok-write_all-clause-stopped : goal.returns-in-Ok-write_all-clause-stopped
returns-in-Ok-write_all-clause-stopped g c =
    let opens = g.S.IncludedFiles.opens in
    let state = g.S.File.OctetReader.state in
    let it = c.in-Ok-write_all.ensures.written c.args.main _ c.args.files.now
    (writes_none opens state c.args.main _ c.args.files.now (g.W.OctetWriter.state c.args.output.now) c.in-Ok.reader c.in-Ok.ensures.stands c.in-Ok.ensures.none c.in-Ok.ensures.nothing) in
    IfErr-weaker c.ended.result _ _
    (λ why stops. ended_stops opens state c.args.main _ c.args.name.now c.args.origin.now c.args.files.now c.write_all.new.files (g.W.OctetWriter.state c.args.output.now) _ c.write_all.new.reader.stack it.text why
    (reads_to_end opens state c.args.main _ c.args.files.now c.write_all.new.files it.text c.write_all.new.reader it.reads c.in-Ok-write_all.ensures.ended.0)
    it.written stops)
    (c.ended.ensures.stopped c.in-Ok-write_all.ensures.ended)

pub returns-in-Err-Reading-clause-stopped : goal.returns-in-Err-Reading-clause-stopped
returns-in-Err-Reading-clause-stopped g c =
    let opens = g.S.IncludedFiles.opens in
    let state = g.S.File.OctetReader.state in
    let begun = writes_none opens state c.args.main _ c.args.files.now (g.W.OctetWriter.state c.args.output.now) c.in-Ok.reader c.in-Ok.ensures.stands c.in-Ok.ensures.none c.in-Ok.ensures.nothing in
    reading_stops opens state c.args.main _ c.args.name.now c.args.origin.now c.args.files.now c.write_all.new.files (g.W.OctetWriter.state c.args.output.now) (g.W.OctetWriter.state c.stop_text.new.output)
    c.write_all.new.reader (g.W.OctetWriter.state c.write_all.new.output) c.in-Err-Reading.stop c.stop_of.result c.stop_of.ensures
    (at_writing_stop opens state c.args.main _ c.args.files.now (g.W.OctetWriter.state c.args.output.now) c.write_all.new.reader c.write_all.new.files (g.W.OctetWriter.state c.write_all.new.output) _ (Reading c.in-Err-Reading.stop) c.in-Err-Reading.field-0-is
    (c.in-Err-Reading.ensures.stops c.args.main _ c.args.files.now begun))
    c.stop_text.ensures

pub returns-in-Err-Write-clause-stopped : goal.returns-in-Err-Write-clause-stopped
returns-in-Err-Write-clause-stopped g c =
    let opens = g.S.IncludedFiles.opens in
    let state = g.S.File.OctetReader.state in
    let begun = writes_none opens state c.args.main _ c.args.files.now (g.W.OctetWriter.state c.args.output.now) c.in-Ok.reader c.in-Ok.ensures.stands c.in-Ok.ensures.none c.in-Ok.ensures.nothing in
    at_writing_stop opens state c.args.main _ c.args.files.now (g.W.OctetWriter.state c.args.output.now) c.write_all.new.reader c.write_all.new.files (g.W.OctetWriter.state c.write_all.new.output) _ Write c.in-Err-Write.field-0-is
    (c.in-Err-Write.ensures.stops c.args.main _ c.args.files.now begun)
