use Rattle.zone_files.proofs.FilesWriting.{line_written}
use Rattle.zone_files.proofs.files.expanded_files.stop_text.Goals as goal

pub returns : goal.returns
returns g c =
    line_written c.write_octets-written.result (g.W.OctetWriter.state c.args.output.now) (g.W.OctetWriter.state c.write_octets-written.new.writer) c.stop_line.result.now c.stop_line.ensures c.write_octets-written.ensures.written c.write_octets-written.ensures.part c.write_octets-written.ensures.failed
