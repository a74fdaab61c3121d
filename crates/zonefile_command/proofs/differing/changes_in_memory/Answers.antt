use Rattle.std.specs.Prelude.{Some}
use Rattle.zonefile_command.proofs.Shown.{memory_alone}
use Rattle.zonefile_command.proofs.differing.changes_in_memory.Goals as goal

pub returns-in-Err-clause-memory : goal.returns-in-Err-clause-memory
returns-in-Err-clause-memory c =
    (memory_alone c.new-text.result.written.octets (Some c.write_difference.new.writer.written.octets) c.in-Err.stop c.in-Err.ensures.stopped, (c.in-Err.ensures.part.changes, c.in-Err.ensures.part.are))
