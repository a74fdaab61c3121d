use Rattle.zonefile_command.proofs.Running.{main_as_input}
use Rattle.zonefile_command.proofs.telling.write_main_stop.Goals as goal

pub returns-in_default : goal.returns-in_default
returns-in_default g c =
    let same = main_as_input c.args.words.now c.args.path.now c.args.stop.now c.in_default.not-Read in
    record {
      written = rw same c.write_input_stop.ensures.written;
      part = rw same c.write_input_stop.ensures.part;
      works = c.write_input_stop.ensures.works;
      failed = c.write_input_stop.ensures.failed;
    }

pub returns-clause-part : goal.returns-clause-part
returns-clause-part g c = rw c.in-Read.is c.write_unreadable_main.ensures.part
