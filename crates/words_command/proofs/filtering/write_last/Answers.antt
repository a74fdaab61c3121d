use Rattle.words_command.proofs.Halting.{ended}
use Rattle.words_command.proofs.filtering.write_last.Goals as goal

pub returns : goal.returns
returns g c = ended c.args.last.now c.args.text.now _ _ c.write_both-written.result c.write_both-written.ensures.written c.write_both-written.ensures.part c.write_both-written.ensures.works c.write_both-written.ensures.failed
