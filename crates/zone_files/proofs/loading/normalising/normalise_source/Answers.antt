use Rattle.zone_files.proofs.Presenting.Written.{stops_when_read, stops_writing}
use Rattle.zone_files.proofs.loading.normalising.normalise_source.Goals as goal

pub returns-clause-stopped : goal.returns-clause-stopped
returns-clause-stopped g c =
    rw c.of_stop.ensures (stops_writing _ _ (g.R.OctetReader.state c.accepted_source.new.reader) _ _ c.in-Ok.zone c.in-Ok.ensures.zone c.in-Ok.ensures.short c.in-Err-write_zone.stop c.in-Err-write_zone.ensures.stopped)

pub returns-clause-read : goal.returns-clause-read
returns-clause-read g c =
    rw c.of_stop.ensures (stops_when_read _ _ _ (g.W.OctetWriter.state c.args.writer.now) (g.W.OctetWriter.state c.write_zone.new.writer) c.in-Ok.zone c.in-Ok.ensures.zone c.in-Ok.ensures.short c.in-Ok.ensures.read c.in-Err-write_zone.stop c.in-Err-write_zone.ensures.stopped)
