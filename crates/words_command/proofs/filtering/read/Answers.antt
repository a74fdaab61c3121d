use Rattle.words_command.proofs.Halting.{failed_read}
use Rattle.words_command.proofs.filtering.read.Goals as goal

pub returns-in-Err-clause-failed : goal.returns-in-Err-clause-failed
returns-in-Err-clause-failed g c = failed_read (g.R.OctetReader.state c.args.input.now) (g.R.OctetReader.state c.read_piece.new.reader) _ c.in-Err.ensures.failed
