use Rattle.std.proofs.Common.{List, ℕ, subst}
use Rattle.std.specs.Io.KnownBytes.{Appends}
use Rattle.zone_files.proofs.FilesLoading.{writes_on}
use Rattle.zone_print.specs.Writing.{AppendsPart}
use Rattle.zone_files.proofs.FilesWriting.{failed_write, fails_writing, stops_writes}
use Rattle.zone_files.proofs.files.expanded_files.write_all.Goals as goal

pub files-preserved : goal.files-preserved
files-preserved g c = record {
  aligned = c.in-Ok.ensures.aligned;
  written = λ main first start was.
      writes_on g.S.IncludedFiles.opens g.S.File.OctetReader.state main first start (g.W.OctetWriter.state c.args.output.now) c.files.reader c.read_on.new.reader c.files.files c.read_on.new.files (g.W.OctetWriter.state c.files.output) (g.W.OctetWriter.state c.write_octets.new.writer)
      (λ text. c.in-Ok.ensures.reads main first start text)
      (subst (λ (made : List ℕ). Appends (g.W.OctetWriter.state c.files.output).octets (g.W.OctetWriter.state c.write_octets.new.writer).octets made) c.deref.ensures.value c.in-Ok-write_octets.ensures.written)
      c.in-Ok-write_octets.ensures.works
      (c.files.invariant.written main first start was);
}

pub returns-in-Err-clause-stops : goal.returns-in-Err-clause-stops
returns-in-Err-clause-stops g c =
    λ main first start was.
    stops_writes g.S.IncludedFiles.opens g.S.File.OctetReader.state main first start (g.W.OctetWriter.state c.args.output.now) c.files.reader c.read_on.new.reader c.files.files c.read_on.new.files (g.W.OctetWriter.state c.files.output) c.in-Err.stop
    (λ text. c.in-Err.ensures.stops main first start text)
    (c.files.invariant.written main first start was)

pub returns-in-Err-write_octets-clause-stops : goal.returns-in-Err-write_octets-clause-stops
returns-in-Err-write_octets-clause-stops g c =
    λ main first start was.
    fails_writing g.S.IncludedFiles.opens g.S.File.OctetReader.state main first start (g.W.OctetWriter.state c.args.output.now) c.files.reader c.read_on.new.reader c.files.files c.read_on.new.files (g.W.OctetWriter.state c.files.output) (g.W.OctetWriter.state c.write_octets.new.writer)
    (λ text. c.in-Ok.ensures.reads main first start text)
    (subst (λ (made : List ℕ). AppendsPart (g.W.OctetWriter.state c.files.output).octets (g.W.OctetWriter.state c.write_octets.new.writer).octets made) c.deref.ensures.value c.in-Err-write_octets.ensures.part)
    (failed_write (g.W.OctetWriter.state c.files.output) (g.W.OctetWriter.state c.write_octets.new.writer) _ c.in-Err-write_octets.ensures.failed)
    (c.files.invariant.written main first start was)
