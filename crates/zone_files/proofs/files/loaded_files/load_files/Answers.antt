use Rattle.std.proofs.Common.{refl}
use Rattle.std.proofs.lemmas.Result.{IfErr-weaker, IfOk-weaker}
use Rattle.zone_files.specs.declared.files.files_reader.ReadingStop.TheVariants as reading
use Rattle.zone_files.proofs.FilesLoading.{at_stop, loads_none, reads_to_end, stops_refused, zone_of}
use Rattle.zone_files.proofs.files.loaded_files.load_files.Goals as goal

pub returns-in-Ok-read_all-clause-zone : goal.returns-in-Ok-read_all-clause-zone
returns-in-Ok-read_all-clause-zone g c =
    let opens = g.S.IncludedFiles.opens in
    let state = g.S.File.OctetReader.state in
    let it = c.in-Ok-read_all.ensures.loads c.args.main _ c.args.files.now c.args.origin.now
    (loads_none opens state c.args.main _ c.args.files.now c.args.origin.now c.in-Ok.reader c.new-loader.result c.in-Ok.ensures.stands c.in-Ok.ensures.none c.in-Ok.ensures.nothing c.new-loader.ensures.stands) in
    IfOk-weaker c.judged.result _ _
    (λ loaded zone. zone_of opens state c.args.main _ c.args.name.now c.args.origin.now c.args.files.now c.read_all.new.files loaded.0 it.reads.opened it.reads.opens it.reads.few
    (zone c.args.main _ c.args.name.now c.args.origin.now it.reads.opened it.text it.reads.stands it.loads))
    c.judged.ensures.zone

pub returns-in-Ok-read_all-clause-stopped : goal.returns-in-Ok-read_all-clause-stopped
returns-in-Ok-read_all-clause-stopped g c =
    let opens = g.S.IncludedFiles.opens in
    let state = g.S.File.OctetReader.state in
    let it = c.in-Ok-read_all.ensures.loads c.args.main _ c.args.files.now c.args.origin.now
    (loads_none opens state c.args.main _ c.args.files.now c.args.origin.now c.in-Ok.reader c.new-loader.result c.in-Ok.ensures.stands c.in-Ok.ensures.none c.in-Ok.ensures.nothing c.new-loader.ensures.stands) in
    IfErr-weaker c.judged.result _ _
    (λ stop refused. stops_refused opens state c.args.main _ c.args.name.now c.args.origin.now c.args.files.now c.read_all.new.files c.read_all.new.reader.stack it.text stop
    (reads_to_end opens state c.args.main _ c.args.files.now c.read_all.new.files it.text c.read_all.new.reader it.reads c.in-Ok-read_all.ensures.ended.0)
    (refused _ c.args.origin.now it.reads.stands.fed it.text it.reads.stands.stands it.loads))
    c.judged.ensures.refused

pub returns-in-Err-Unread-clause-stopped : goal.returns-in-Err-Unread-clause-stopped
returns-in-Err-Unread-clause-stopped g c =
    let opens = g.S.IncludedFiles.opens in
    let state = g.S.File.OctetReader.state in
    let it = at_stop opens state c.args.main _ c.args.files.now c.args.origin.now c.in-Ok.reader c.read_all.new.reader c.args.files.now c.read_all.new.files c.read_all.new.loader _ reading.Unread c.in-Err-Unread.field-0-is
    (c.in-Err-Unread.ensures.stops c.args.main _ c.args.files.now c.args.origin.now
    (loads_none opens state c.args.main _ c.args.files.now c.args.origin.now c.in-Ok.reader c.new-loader.result c.in-Ok.ensures.stands c.in-Ok.ensures.none c.in-Ok.ensures.nothing c.new-loader.ensures.stands)) in
    stops_refused opens state c.args.main _ c.args.name.now c.args.origin.now c.args.files.now c.read_all.new.files c.read_all.new.reader.stack it.0 c.unread.result it.1
    (c.unread.ensures _ c.args.origin.now it.1.so_far.fed it.0 it.1.so_far.stands it.2)

pub returns-in-Err-TooLong-clause-stopped : goal.returns-in-Err-TooLong-clause-stopped
returns-in-Err-TooLong-clause-stopped g c =
    let opens = g.S.IncludedFiles.opens in
    let state = g.S.File.OctetReader.state in (
      refl,
      refl,
      at_stop opens state c.args.main _ c.args.files.now c.args.origin.now c.in-Ok.reader c.read_all.new.reader c.args.files.now c.read_all.new.files c.read_all.new.loader _ reading.TooLong c.in-Err-TooLong.field-0-is
          (c.in-Err-TooLong.ensures.stops c.args.main _ c.args.files.now c.args.origin.now
          (loads_none opens state c.args.main _ c.args.files.now c.args.origin.now c.in-Ok.reader c.new-loader.result c.in-Ok.ensures.stands c.in-Ok.ensures.none c.in-Ok.ensures.nothing c.new-loader.ensures.stands)),
    )
